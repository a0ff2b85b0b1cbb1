use Rattle.std.proofs.Common.{◌≡◌, true, false, sym, ◌∙◌}
use Rattle.lsm_sorted.proofs.TournamentLemmas.{kept_won}
use Rattle.lsm_sorted.proofs.heap.lazy_tournament.brackets.Bracket.follow.Goals as goal

pub replay-requires : goal.replay-requires
replay-requires g c = c.requires.won c.if-self.true

pub returns-then-self-clause-kept : goal.returns-then-self-clause-kept
returns-then-self-clause-kept g c = kept_won g.T.Ord.cmp c.args.slots.now c.replay.new.self c.replay.ensures.won

pub returns-then-self-clause-bound : goal.returns-then-self-clause-bound
returns-then-self-clause-bound g c h e = rw c.if-self.true (c.replay.ensures.bound h e)

pub returns-else-self-clause-kept : goal.returns-else-self-clause-kept
returns-else-self-clause-kept g c = record {
  nodes = c.requires.nodes;
  won = λ played. let wrong : true ≡ false = sym played ∙ c.if-self.false in absurd cc;
}

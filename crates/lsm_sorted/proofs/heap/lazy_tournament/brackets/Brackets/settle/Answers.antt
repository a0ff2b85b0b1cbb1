use Rattle.std.proofs.Common.{ℕ, ◌+◌, ◌≤◌, Option, None, subst, le_refl, arith}
use Rattle.lsm_sorted.specs.merge.Brackets.{AreKept}
use Rattle.lsm_sorted.proofs.TournamentLemmas.{are_kept_open}
use Rattle.lsm_sorted.proofs.heap.lazy_tournament.brackets.Brackets.settle.Goals as goal

no_more : (old more : ℕ) → old ≤ old + more
no_more old more = omega arith

pub follow-requires : goal.follow-requires
follow-requires g c =
    are_kept_open g.T.Ord.cmp _ None c.args.slots.now c.args.self.now (subst (λ (o : Option ℕ). AreKept o g.T.Ord.cmp c.args.slots.now c.args.self.now) c.in-Some.is c.requires)

pub returns-in-None-clause-kept : goal.returns-in-None-clause-kept
returns-in-None-clause-kept g c = subst (λ (o : Option ℕ). AreKept o g.T.Ord.cmp c.args.slots.now c.args.self.now) c.in-None.is c.requires

pub returns-in-None-clause-rises : goal.returns-in-None-clause-rises
returns-in-None-clause-rises g c = le_refl c.args.self.now.steps

pub returns-in-None-clause-bound : goal.returns-in-None-clause-bound
returns-in-None-clause-bound g c h e = no_more c.args.self.now.steps _

use Rattle.std.proofs.Common.{◌≡◌, ℕ, ◌+◌, ◌≤◌, Bool, subst, ◌∙◌, arith}
use Rattle.std.specs.Prelude.{if◌then◌else◌}
use Rattle.sst_entries.specs.declared.stream.Direction.{Direction}
use Rattle.lsm_sorted.specs.merge.Order.{toward}
use Rattle.lsm_sorted.specs.merge.Brackets.{IsUnbeaten}
use Rattle.lsm_sorted.proofs.heap.lazy_tournament.brackets.Brackets.winner.Goals as goal

-- what is played again, and then a first round
two_bounds : (old between new again first : ℕ) (played before : Bool) → between ≤ old + again → played ≡ before → new ≤ between + (if played then 0 else first) → new ≤ old + again + (if before then 0 else first)
two_bounds old between new again first played before settled same bound =
    let last = subst (λ (p : Bool). new ≤ between + (if p then 0 else first)) same bound in
    omega (arith, last)

pub returns-in-Front-clause-within : goal.returns-in-Front-clause-within
returns-in-Front-clause-within g c = c.winner.ensures.within

pub returns-in-Front-clause-wins : goal.returns-in-Front-clause-wins
returns-in-Front-clause-wins g c =
    rw c.in-Front.is (subst (λ (end : Direction). IsUnbeaten (toward end g.T.Ord.cmp) c.args.slots.now c.winner.result) c.settle.ensures.kept.front_end c.winner.ensures.wins)

pub returns-in-Front-clause-kept : goal.returns-in-Front-clause-kept
returns-in-Front-clause-kept g c = record {
  front_end = c.winner.ensures.end ∙ c.settle.ensures.kept.front_end;
  back_end = c.settle.ensures.kept.back_end;
  front = c.winner.ensures.kept;
  back = c.settle.ensures.kept.back;
}

pub returns-in-Front-clause-emptied : goal.returns-in-Front-clause-emptied
returns-in-Front-clause-emptied g c = c.settle.ensures.emptied

pub returns-in-Front-clause-plays : goal.returns-in-Front-clause-plays
returns-in-Front-clause-plays g c = rw c.in-Front.is (c.winner.ensures.played, c.settle.ensures.back)

pub returns-in-Front-clause-rises : goal.returns-in-Front-clause-rises
returns-in-Front-clause-rises g c = omega (arith, c.settle.ensures.rises, c.winner.ensures.rises)

pub returns-in-Front-clause-bound : goal.returns-in-Front-clause-bound
returns-in-Front-clause-bound g c h e =
    rw c.in-Front.is (two_bounds c.args.self.now.steps c.settle.new.self.steps c.winner.new.steps _ _ c.settle.new.self.front.is_played c.args.self.now.front.is_played (c.settle.ensures.bound h e) c.settle.ensures.front c.winner.ensures.bound)

pub returns-in-Back-clause-within : goal.returns-in-Back-clause-within
returns-in-Back-clause-within g c = c.winner-in-Back.ensures.within

pub returns-in-Back-clause-wins : goal.returns-in-Back-clause-wins
returns-in-Back-clause-wins g c =
    rw c.in-Back.is (subst (λ (end : Direction). IsUnbeaten (toward end g.T.Ord.cmp) c.args.slots.now c.winner-in-Back.result) c.settle.ensures.kept.back_end c.winner-in-Back.ensures.wins)

pub returns-in-Back-clause-kept : goal.returns-in-Back-clause-kept
returns-in-Back-clause-kept g c = record {
  back_end = c.winner-in-Back.ensures.end ∙ c.settle.ensures.kept.back_end;
  front_end = c.settle.ensures.kept.front_end;
  back = c.winner-in-Back.ensures.kept;
  front = c.settle.ensures.kept.front;
}

pub returns-in-Back-clause-emptied : goal.returns-in-Back-clause-emptied
returns-in-Back-clause-emptied g c = c.settle.ensures.emptied

pub returns-in-Back-clause-plays : goal.returns-in-Back-clause-plays
returns-in-Back-clause-plays g c = rw c.in-Back.is (c.settle.ensures.front, c.winner-in-Back.ensures.played)

pub returns-in-Back-clause-rises : goal.returns-in-Back-clause-rises
returns-in-Back-clause-rises g c = omega (arith, c.settle.ensures.rises, c.winner-in-Back.ensures.rises)

pub returns-in-Back-clause-bound : goal.returns-in-Back-clause-bound
returns-in-Back-clause-bound g c h e =
    rw c.in-Back.is (two_bounds c.args.self.now.steps c.settle.new.self.steps c.winner-in-Back.new.steps _ _ c.settle.new.self.back.is_played c.args.self.now.back.is_played (c.settle.ensures.bound h e) c.settle.ensures.back c.winner-in-Back.ensures.bound)

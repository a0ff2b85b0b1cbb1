-- On to the next entry that is kept.
use Rattle.std.proofs.Common.{◌∙◌, arith}
use Rattle.std.specs.Prelude.{Some, None, Err}
use Rattle.std.proofs.lemmas.Result.{err_from_is_err_and}
use Rattle.lsm_sorted.proofs.CompactionCalls.{advances_live, advances_silent, calls_ended}
use Rattle.lsm_sorted.proofs.CompactionCalls.{calls_lent, calls_looked, calls_refused}
use Rattle.lsm_sorted.proofs.CompactionCalls.{steps_begun, steps_quiet, steps_then}
use Rattle.lsm_sorted.proofs.compaction.lending.LendingCompaction.go_on.Goals as goal

pub loop-self-init : goal.loop-self-init
loop-self-init g c = record {
  may = c.requires.may;
  live = c.requires.live;
  empty = c.requires.empty;
  few = omega (arith);
  some = steps_begun g.F.LentFilter.gives g.C.LentCallback.gets g.L.Lending.advances g.L.Lending.lent c.args.self.now c.requires.live;
}

pub returns-in_err-fetch-clause-goes : goal.returns-in_err-fetch-clause-goes
returns-in_err-fetch-clause-goes g c =
    let p = err_from_is_err_and c.from_residual.result c.from_residual.ensures.1 in
    let s = c.args.self.now in
    let e = c.in_err-fetch.field-0.0 in
    rw (p.1, p.2) (advances_live g.F.LentFilter.gives g.C.LentCallback.gets g.L.Lending.advances g.L.Lending.lent g.L.Lending.can_advance s c.fetch.new.self (Some (Err e)) c.requires.live c.in_err-fetch.ensures.may
    (calls_refused g.F.LentFilter.gives g.C.LentCallback.gets g.L.Lending.advances g.L.Lending.lent s c.loop-self.self c.fetch.new.self e c.loop-self.invariant.some c.in_err-fetch.ensures.fetches c.in_err-fetch.ensures.rests))

pub returns-in_err-look-clause-goes : goal.returns-in_err-look-clause-goes
returns-in_err-look-clause-goes g c =
    let p = err_from_is_err_and c.from_residual-in_err-look.result c.from_residual-in_err-look.ensures.1 in
    let s = c.args.self.now in
    let e = c.in_err-look.field-0.0 in
    rw (p.1, p.2) (advances_live g.F.LentFilter.gives g.C.LentCallback.gets g.L.Lending.advances g.L.Lending.lent g.L.Lending.can_advance s c.look.new.self (Some (Err e)) c.requires.live c.in_err-look.ensures.may
    (calls_looked g.F.LentFilter.gives g.C.LentCallback.gets g.L.Lending.advances g.L.Lending.lent s c.fetch.new.self c.look.new.self (c.in_ok-fetch.ensures.pending ∙ c.if-branch.true)
    (steps_then g.F.LentFilter.gives g.C.LentCallback.gets g.L.Lending.advances g.L.Lending.lent s c.loop-self.self c.fetch.new.self None c.loop-self.invariant.some c.in_ok-fetch.ensures.fetches.step)
    e c.in_err-look.ensures.steps c.in_err-look.ensures.rests))

pub returns-then-branch-2-clause-goes : goal.returns-then-branch-2-clause-goes
returns-then-branch-2-clause-goes g c =
    let s = c.args.self.now in
    let t = c.look.new.self in
    advances_live g.F.LentFilter.gives g.C.LentCallback.gets g.L.Lending.advances g.L.Lending.lent g.L.Lending.can_advance s t _ c.requires.live c.in_ok-look.ensures.may
    (calls_lent g.F.LentFilter.gives g.C.LentCallback.gets g.L.Lending.advances g.L.Lending.lent s c.fetch.new.self t (c.in_ok-fetch.ensures.pending ∙ c.if-branch.true)
    (steps_then g.F.LentFilter.gives g.C.LentCallback.gets g.L.Lending.advances g.L.Lending.lent s c.loop-self.self c.fetch.new.self None c.loop-self.invariant.some c.in_ok-fetch.ensures.fetches.step)
    c.in_ok-look.field-0 _ c.in_ok-look.ensures.more c.if-branch-2.true c.in_ok-look.ensures.steps)

pub loop-self-preserved : goal.loop-self-preserved
loop-self-preserved g c =
    let s = c.args.self.now in
    let t = c.look.new.self in
    record {
      may = c.in_ok-look.ensures.may;
      live = c.in_ok-look.ensures.live;
      empty = c.in_ok-look.ensures.empty c.if-branch-2.false;
      few = omega (arith, c.in_ok-look.ensures.fewer, c.in_ok-fetch.ensures.few, c.loop-self.invariant.few);
      some = steps_then g.F.LentFilter.gives g.C.LentCallback.gets g.L.Lending.advances g.L.Lending.lent s c.fetch.new.self t None
          (steps_then g.F.LentFilter.gives g.C.LentCallback.gets g.L.Lending.advances g.L.Lending.lent s c.loop-self.self c.fetch.new.self None c.loop-self.invariant.some c.in_ok-fetch.ensures.fetches.step)
          (steps_quiet g.F.LentFilter.gives g.C.LentCallback.gets g.L.Lending.advances g.L.Lending.lent c.fetch.new.self t (c.in_ok-look.ensures.empty c.if-branch-2.false) c.in_ok-look.ensures.steps);
    }

pub returns-clause-goes : goal.returns-clause-goes
returns-clause-goes g c =
    let s = c.args.self.now in
    let t = c.fetch.new.self in
    let after = c.in_ok-fetch.ensures in
    advances_silent g.F.LentFilter.gives g.C.LentCallback.gets g.L.Lending.advances g.L.Lending.lent g.L.Lending.can_advance s t (after.lends ∙ c.loop-self.invariant.empty)
    (advances_live g.F.LentFilter.gives g.C.LentCallback.gets g.L.Lending.advances g.L.Lending.lent g.L.Lending.can_advance s t None c.requires.live after.may
    (calls_ended g.F.LentFilter.gives g.C.LentCallback.gets g.L.Lending.advances g.L.Lending.lent s c.loop-self.self t c.loop-self.invariant.some after.fetches (after.pending ∙ c.if-branch.false)))

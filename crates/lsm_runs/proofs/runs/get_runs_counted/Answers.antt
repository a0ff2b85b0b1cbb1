use Rattle.std.proofs.Common.{◌+◌, length, subst}
use Rattle.std.specs.Prelude.{None, Option, Result, map}
use Rattle.std.specs.Arc.{arc_value}
use Rattle.sst_entries.specs.declared.error.Error.{Error}
use Rattle.sst_entries.specs.Entry.{Entry}
use Rattle.sst_entries.specs.Error.{Gives}
use Rattle.lsm_sorted.specs.version.Run.{IsInOrder}
use Rattle.lsm_run_parts.specs.RunParts.{range_of}
use Rattle.lsm_runs.specs.SeveralRuns.{loads_together}
use Rattle.lsm_runs.proofs.RunLoops.{all_at}
use Rattle.lsm_runs.proofs.RunPoints.{runs_in_order, runs_point}
use Rattle.lsm_runs.proofs.RunReads.{all_each, every_run, found_is, more_each, none_each, none_small, reads_all, reads_fault, reads_next, refused_by, together_small}
use Rattle.lsm_runs.proofs.runs.get_runs_counted.Goals as goal

pub loop-run-init : goal.loop-run-init
loop-run-init g c = rw c.none-opened.ensures (record { reads = λ order r new d. d; small = none_small; few = none_each _ })

pub loop-run-preserved : goal.loop-run-preserved
loop-run-preserved g c =
    let runs = c.args.runs.now in
    let i = c.loop-run.run-index in
    let before = c.loop-run.invariant in
    let returned = c.get_run_counted-returned in
    rw (c.leading-found.ensures, c.together-opened.ensures) (record {
      reads = λ order.
          let own = all_at arc_value (IsInOrder range_of) runs i c.run-item.result order c.loop-run-test.true c.run-item.is in
          let here = rw c.in-Ok.is at (rw c.deref.ensures at (returned.ensures.read (rw c.deref.ensures own))) in
          reads_next arc_value (every_run c.args.key.now c.args.seqno) runs i c.run-item.result c.loop-run-test.true c.run-item.is c.loop-run.found c.loop-run.opened returned.result.1 before.small (before.reads order) c.in-Ok.next here;
      small = together_small c.loop-run.opened returned.result.1;
      few = more_each i (length runs) c.loop-run.opened returned.result.1 c.loop-run-test.true before.few returned.ensures.few;
    })

pub returns-in-Err-clause-returned : goal.returns-in-Err-clause-returned
returns-in-Err-clause-returned g c order =
    let runs = c.args.runs.now in
    let i = c.loop-run.run-index in
    let before = c.loop-run.invariant in
    let returned = c.get_run_counted-returned in
    let own = all_at arc_value (IsInOrder range_of) runs i c.run-item.result order c.loop-run-test.true c.run-item.is in
    let here = rw c.in-Err.is at (rw c.deref.ensures at (returned.ensures.read (rw c.deref.ensures own))) in
    (reads_fault arc_value (every_run c.args.key.now c.args.seqno) runs i c.run-item.result c.loop-run-test.true c.run-item.is c.loop-run.found c.loop-run.opened returned.result.1 before.small (before.reads order) c.in-Err.error here).returned

pub returns-in-Err-clause-list : goal.returns-in-Err-clause-list
returns-in-Err-clause-list g c lists held =
    let runs = map arc_value c.args.runs.now in
    subst (λ (returned : Result (Option Entry) Error). Gives (λ (x : Option Entry). x) (refused_by c.in-Err.error) returned) (runs_point c.args.key.now c.args.seqno None runs lists held)
    (returns-in-Err-clause-returned g c (runs_in_order runs lists held))

pub returns-in-Err-clause-early : goal.returns-in-Err-clause-early
returns-in-Err-clause-early g c order =
    let runs = c.args.runs.now in
    let i = c.loop-run.run-index in
    let before = c.loop-run.invariant in
    let returned = c.get_run_counted-returned in
    let own = all_at arc_value (IsInOrder range_of) runs i c.run-item.result order c.loop-run-test.true c.run-item.is in
    let here = rw c.in-Err.is at (rw c.deref.ensures at (returned.ensures.read (rw c.deref.ensures own))) in
    (reads_fault arc_value (every_run c.args.key.now c.args.seqno) runs i c.run-item.result c.loop-run-test.true c.run-item.is c.loop-run.found c.loop-run.opened returned.result.1 before.small (before.reads order) c.in-Err.error here).early tt

pub returns-in-Err-clause-calm : goal.returns-in-Err-clause-calm
returns-in-Err-clause-calm g c order none =
    let runs = c.args.runs.now in
    let i = c.loop-run.run-index in
    let before = c.loop-run.invariant in
    let returned = c.get_run_counted-returned in
    let own = all_at arc_value (IsInOrder range_of) runs i c.run-item.result order c.loop-run-test.true c.run-item.is in
    let here = rw c.in-Err.is at (rw c.deref.ensures at (returned.ensures.read (rw c.deref.ensures own))) in
    (reads_fault arc_value (every_run c.args.key.now c.args.seqno) runs i c.run-item.result c.loop-run-test.true c.run-item.is c.loop-run.found c.loop-run.opened returned.result.1 before.small (before.reads order) c.in-Err.error here).calm none

pub returns-in-Err-clause-opened : goal.returns-in-Err-clause-opened
returns-in-Err-clause-opened g c order =
    let runs = c.args.runs.now in
    let i = c.loop-run.run-index in
    let before = c.loop-run.invariant in
    let returned = c.get_run_counted-returned in
    let own = all_at arc_value (IsInOrder range_of) runs i c.run-item.result order c.loop-run-test.true c.run-item.is in
    let here = rw c.in-Err.is at (rw c.deref.ensures at (returned.ensures.read (rw c.deref.ensures own))) in
    rw c.together-opened.ensures
    (reads_fault arc_value (every_run c.args.key.now c.args.seqno) runs i c.run-item.result c.loop-run-test.true c.run-item.is c.loop-run.found c.loop-run.opened returned.result.1 before.small (before.reads order) c.in-Err.error here).opens

pub returns-in-Err-clause-few : goal.returns-in-Err-clause-few
returns-in-Err-clause-few g c =
    let runs = c.args.runs.now in
    let i = c.loop-run.run-index in
    let returned = c.get_run_counted-returned in
    rw c.together-opened.ensures (all_each (i + 1) (length runs) (loads_together c.loop-run.opened returned.result.1)
    (more_each i (length runs) c.loop-run.opened returned.result.1 c.loop-run-test.true c.loop-run.invariant.few returned.ensures.few))

pub returns-clause-returned : goal.returns-clause-returned
returns-clause-returned g c order = (reads_all arc_value (every_run c.args.key.now c.args.seqno) c.args.runs.now c.loop-run.run-index c.loop-run.found c.loop-run.opened (c.loop-run.invariant.reads order) c.loop-run-test.false).returned

pub returns-clause-list : goal.returns-clause-list
returns-clause-list g c lists held =
    let runs = map arc_value c.args.runs.now in
    subst (λ (returned : Result (Option Entry) Error). Gives (λ (x : Option Entry). x) (found_is c.loop-run.found) returned) (runs_point c.args.key.now c.args.seqno None runs lists held) (returns-clause-returned g c (runs_in_order runs lists held))

pub returns-clause-opened : goal.returns-clause-opened
returns-clause-opened g c order = (reads_all arc_value (every_run c.args.key.now c.args.seqno) c.args.runs.now c.loop-run.run-index c.loop-run.found c.loop-run.opened (c.loop-run.invariant.reads order) c.loop-run-test.false).opens

pub returns-clause-few : goal.returns-clause-few
returns-clause-few g c = all_each c.loop-run.run-index (length c.args.runs.now) c.loop-run.opened c.loop-run.invariant.few

pub returns-clause-early : goal.returns-clause-early
returns-clause-early g c order = (reads_all arc_value (every_run c.args.key.now c.args.seqno) c.args.runs.now c.loop-run.run-index c.loop-run.found c.loop-run.opened (c.loop-run.invariant.reads order) c.loop-run-test.false).early tt

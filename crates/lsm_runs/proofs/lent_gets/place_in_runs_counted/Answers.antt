use Rattle.std.proofs.Common.{◌+◌, length, refl, subst}
use Rattle.std.proofs.lemmas.Option.{slice_get_read}
use Rattle.std.specs.Option.{option_and_then}
use Rattle.std.specs.Prelude.{None, Option, Result, map}
use Rattle.std.specs.Arc.{arc_value}
use Rattle.sst_entries.specs.declared.error.Error.{Error}
use Rattle.sst_entries.specs.Entry.{Entry}
use Rattle.sst_entries.specs.Error.{Gives}
use Rattle.sst_blocks.specs.Opened.{none_opened}
use Rattle.lsm_readers.proofs.ReadViews.{opens_seen}
use Rattle.lsm_sorted.specs.version.Run.{IsInOrder}
use Rattle.lsm_run_parts.specs.RunParts.{range_of}
use Rattle.lsm_runs.specs.RunPlaces.{IsThere, placed_in_runs}
use Rattle.lsm_runs.specs.SeveralRuns.{loads_together, run_read, runs_read}
use Rattle.lsm_runs.proofs.RunLoops.{all_at, mapped_at}
use Rattle.lsm_runs.proofs.RunPlaces.{does_in_runs, found_place, one_of, refused_place, there_in_runs}
use Rattle.lsm_runs.proofs.RunPoints.{runs_in_order, runs_point}
use Rattle.lsm_runs.proofs.RunReads.{all_each, every_run, found_is, more_each, none_each, none_small, reads_all, reads_fault, reads_next, refused_by, together_small}
use Rattle.lsm_runs.proofs.lent_gets.place_in_runs_counted.Goals as goal

pub loop-number-init : goal.loop-number-init
loop-number-init g c = rw c.none-opened.ensures (record { reads = λ order r new d. d; small = none_small; few = none_each _; there = tt })

pub loop-number-preserved : goal.loop-number-preserved
loop-number-preserved g c =
    let runs = c.args.runs.now in
    let all = map arc_value runs in
    let i = c.loop-number.number in
    let run = c.index-runs-number.result in
    let key = c.args.key.now in
    let n = c.args.seqno in
    let before = c.loop-number.invariant in
    let returned = c.place_in_run-returned in
    let less = c.loop-number-test.true in
    let at = mapped_at arc_value runs i run (slice_get_read runs (length runs) i run refl less c.index-runs-number.is) in
    let numbered = rw c.in-Ok.is at returned.ensures.number in
    let there = rw c.deref.ensures at (rw c.in-Ok.is at returned.ensures.there) in
    rw c.together-opened.ensures (record {
      reads = λ order.
          let own = all_at arc_value (IsInOrder range_of) runs i run order less c.index-runs-number.is in
          let does = rw c.deref.ensures at (returned.ensures.read (rw c.deref.ensures own)) in
          let here = rw c.in-Ok.is at (does_in_runs all (arc_value run) i at returned.result.0 (run_read key n (arc_value run)) returned.result.1 returned.ensures.number does) in
          rw c.leading_place-found.ensures.leads (reads_next arc_value (every_run key n) runs i run less c.index-runs-number.is (option_and_then (placed_in_runs all) c.loop-number.found) c.loop-number.opened returned.result.1 before.small (before.reads order) (option_and_then (placed_in_runs all) c.in-Ok.next) here);
      small = together_small c.loop-number.opened returned.result.1;
      few = more_each i (length runs) c.loop-number.opened returned.result.1 less before.few returned.ensures.few;
      there = one_of (IsThere all) c.loop-number.found c.in-Ok.next c.leading_place-found.result c.leading_place-found.ensures.one before.there (there_in_runs all (arc_value run) i at c.in-Ok.next numbered there);
    })

pub returns-in-Err-clause-returned : goal.returns-in-Err-clause-returned
returns-in-Err-clause-returned g c order =
    let runs = c.args.runs.now in
    let all = map arc_value runs in
    let i = c.loop-number.number in
    let run = c.index-runs-number.result in
    let key = c.args.key.now in
    let n = c.args.seqno in
    let before = c.loop-number.invariant in
    let returned = c.place_in_run-returned in
    let less = c.loop-number-test.true in
    let at = mapped_at arc_value runs i run (slice_get_read runs (length runs) i run refl less c.index-runs-number.is) in
    let own = all_at arc_value (IsInOrder range_of) runs i run order less c.index-runs-number.is in
    let does = rw c.deref.ensures at (returned.ensures.read (rw c.deref.ensures own)) in
    let here = rw c.in-Err.is at (does_in_runs all (arc_value run) i at returned.result.0 (run_read key n (arc_value run)) returned.result.1 returned.ensures.number does) in
    let fault = reads_fault arc_value (every_run key n) runs i run less c.index-runs-number.is (option_and_then (placed_in_runs all) c.loop-number.found) c.loop-number.opened returned.result.1 before.small (before.reads order) c.in-Err.error here in
    fault.returned

pub returns-in-Err-clause-early : goal.returns-in-Err-clause-early
returns-in-Err-clause-early g c order =
    let runs = c.args.runs.now in
    let all = map arc_value runs in
    let i = c.loop-number.number in
    let run = c.index-runs-number.result in
    let key = c.args.key.now in
    let n = c.args.seqno in
    let before = c.loop-number.invariant in
    let returned = c.place_in_run-returned in
    let less = c.loop-number-test.true in
    let at = mapped_at arc_value runs i run (slice_get_read runs (length runs) i run refl less c.index-runs-number.is) in
    let own = all_at arc_value (IsInOrder range_of) runs i run order less c.index-runs-number.is in
    let does = rw c.deref.ensures at (returned.ensures.read (rw c.deref.ensures own)) in
    let here = rw c.in-Err.is at (does_in_runs all (arc_value run) i at returned.result.0 (run_read key n (arc_value run)) returned.result.1 returned.ensures.number does) in
    let fault = reads_fault arc_value (every_run key n) runs i run less c.index-runs-number.is (option_and_then (placed_in_runs all) c.loop-number.found) c.loop-number.opened returned.result.1 before.small (before.reads order) c.in-Err.error here in
    fault.early tt

pub returns-in-Err-clause-calm : goal.returns-in-Err-clause-calm
returns-in-Err-clause-calm g c order none =
    let runs = c.args.runs.now in
    let all = map arc_value runs in
    let i = c.loop-number.number in
    let run = c.index-runs-number.result in
    let key = c.args.key.now in
    let n = c.args.seqno in
    let before = c.loop-number.invariant in
    let returned = c.place_in_run-returned in
    let less = c.loop-number-test.true in
    let at = mapped_at arc_value runs i run (slice_get_read runs (length runs) i run refl less c.index-runs-number.is) in
    let own = all_at arc_value (IsInOrder range_of) runs i run order less c.index-runs-number.is in
    let does = rw c.deref.ensures at (returned.ensures.read (rw c.deref.ensures own)) in
    let here = rw c.in-Err.is at (does_in_runs all (arc_value run) i at returned.result.0 (run_read key n (arc_value run)) returned.result.1 returned.ensures.number does) in
    let fault = reads_fault arc_value (every_run key n) runs i run less c.index-runs-number.is (option_and_then (placed_in_runs all) c.loop-number.found) c.loop-number.opened returned.result.1 before.small (before.reads order) c.in-Err.error here in
    fault.calm none

pub returns-in-Err-clause-opened : goal.returns-in-Err-clause-opened
returns-in-Err-clause-opened g c order =
    let runs = c.args.runs.now in
    let all = map arc_value runs in
    let i = c.loop-number.number in
    let run = c.index-runs-number.result in
    let key = c.args.key.now in
    let n = c.args.seqno in
    let before = c.loop-number.invariant in
    let returned = c.place_in_run-returned in
    let less = c.loop-number-test.true in
    let at = mapped_at arc_value runs i run (slice_get_read runs (length runs) i run refl less c.index-runs-number.is) in
    let own = all_at arc_value (IsInOrder range_of) runs i run order less c.index-runs-number.is in
    let does = rw c.deref.ensures at (returned.ensures.read (rw c.deref.ensures own)) in
    let here = rw c.in-Err.is at (does_in_runs all (arc_value run) i at returned.result.0 (run_read key n (arc_value run)) returned.result.1 returned.ensures.number does) in
    let fault = reads_fault arc_value (every_run key n) runs i run less c.index-runs-number.is (option_and_then (placed_in_runs all) c.loop-number.found) c.loop-number.opened returned.result.1 before.small (before.reads order) c.in-Err.error here in
    rw c.together-opened.ensures (opens_seen (option_and_then (placed_in_runs all)) (refused_place c.in-Err.error) (runs_read key n None all).loads none_opened (loads_together c.loop-number.opened returned.result.1) fault.opens)

pub returns-in-Err-clause-list : goal.returns-in-Err-clause-list
returns-in-Err-clause-list g c lists held =
    let all = map arc_value c.args.runs.now in
    subst (λ (returned : Result (Option Entry) Error). Gives (λ (x : Option Entry). x) (refused_by c.in-Err.error) returned) (runs_point c.args.key.now c.args.seqno None all lists held)
    (returns-in-Err-clause-returned g c (runs_in_order all lists held))

pub returns-in-Err-clause-few : goal.returns-in-Err-clause-few
returns-in-Err-clause-few g c =
    let runs = c.args.runs.now in
    let i = c.loop-number.number in
    let returned = c.place_in_run-returned in
    rw c.together-opened.ensures (all_each (i + 1) (length runs) (loads_together c.loop-number.opened returned.result.1)
    (more_each i (length runs) c.loop-number.opened returned.result.1 c.loop-number-test.true c.loop-number.invariant.few returned.ensures.few))

pub returns-clause-returned : goal.returns-clause-returned
returns-clause-returned g c order =
    (reads_all arc_value (every_run c.args.key.now c.args.seqno) c.args.runs.now c.loop-number.number (option_and_then (placed_in_runs (map arc_value c.args.runs.now)) c.loop-number.found) c.loop-number.opened (c.loop-number.invariant.reads order) c.loop-number-test.false).returned

pub returns-clause-opened : goal.returns-clause-opened
returns-clause-opened g c order =
    let all = map arc_value c.args.runs.now in
    let read = runs_read c.args.key.now c.args.seqno None all in
    opens_seen (option_and_then (placed_in_runs all)) (found_place c.loop-number.found) read.loads none_opened c.loop-number.opened
    (reads_all arc_value (every_run c.args.key.now c.args.seqno) c.args.runs.now c.loop-number.number (option_and_then (placed_in_runs all) c.loop-number.found) c.loop-number.opened (c.loop-number.invariant.reads order) c.loop-number-test.false).opens

pub returns-clause-early : goal.returns-clause-early
returns-clause-early g c order =
    (reads_all arc_value (every_run c.args.key.now c.args.seqno) c.args.runs.now c.loop-number.number (option_and_then (placed_in_runs (map arc_value c.args.runs.now)) c.loop-number.found) c.loop-number.opened (c.loop-number.invariant.reads order) c.loop-number-test.false).early tt

pub returns-clause-list : goal.returns-clause-list
returns-clause-list g c lists held =
    let all = map arc_value c.args.runs.now in
    subst (λ (returned : Result (Option Entry) Error). Gives (λ (x : Option Entry). x) (found_is (option_and_then (placed_in_runs all) c.loop-number.found)) returned) (runs_point c.args.key.now c.args.seqno None all lists held) (returns-clause-returned g c (runs_in_order all lists held))

pub returns-clause-few : goal.returns-clause-few
returns-clause-few g c = all_each c.loop-number.number (length c.args.runs.now) c.loop-number.opened c.loop-number.invariant.few

use Rattle.std.proofs.Common.{◌≡◌, arith, false, refl}
use Rattle.std.specs.Prelude.{map}
use Rattle.std.specs.Arc.{arc_value}
use Rattle.sst_entries.specs.Error.{is_memory}
use Rattle.sst_entries.specs.declared.error.Error.{Error}
use Rattle.sst_entries.proofs.Refusals.{faults_refusal}
use Rattle.sst_entries.specs.Stream.{nowhere}
use Rattle.lsm_runs.specs.RunScan.{RunScansNext}
use Rattle.lsm_runs.specs.compaction.AnyRuns.{BeginsWith}
use Rattle.lsm_runs.proofs.AnyScans.{blocks_fail, loads_all, loads_more, no_block, no_table}
use Rattle.lsm_runs.proofs.AnyScans.{scan_all, scan_begins, scan_more, scan_passed, some_table}
use Rattle.lsm_runs.proofs.FilteredCame.{err_passed}
use Rattle.lsm_runs.proofs.RunWriting.{wants}
use Rattle.lsm_runs.proofs.Scanners.{own_fact, own_tables, scanned_all, scanned_more}
use Rattle.lsm_runs.proofs.Together.{none_together}
use Rattle.lsm_runs.proofs.compaction.compact.scanners_of.Goals as goal
use Rattle.lsm_runs.proofs.compaction.compact.scanners_of.Goals.{then-not-is_empty+in_ok-scanner_of+in_ok-push}
use Rattle.lsm_runs.proofs.compaction.compact.scanners_of.Goals.{else-not-is_empty}

pub loop-run-init : goal.loop-run-init
loop-run-init g c = record {
  held = λ able. rw c.new-scanners.ensures.items (none_together RunScansNext nowhere);
  any = rw c.new-scanners.ensures.items tt;
  loads = refl;
}

pub loop-run-preserved : goal.loop-run-preserved
loop-run-preserved g c =
    let runs = c.args.runs.now in
    let i = c.loop-run.run-index in
    let run = c.run-item.result in
    let less = c.loop-run-test.true in
    let is = c.run-item.is in
    elim c.if-not-is_empty.branch [
      | then-not-is_empty+in_ok-scanner_of+in_ok-push w ↦ record {
        held = λ able.
            rw (w.scanners-is, w.in_ok-push.ensures.items)
            (scanned_more arc_value runs able i RunScansNext nowhere run less is c.loop-run.scanners.items (c.loop-run.invariant.held able) w.in_ok-scanner_of.field-0
            (λ ls held some. w.in_ok-scanner_of.ensures.list ls held some));
        any = rw (w.scanners-is, w.in_ok-push.ensures.items)
            (scan_more arc_value RunScansNext runs i run less is c.loop-run.scanners.items w.in_ok-scanner_of.field-0 c.loop-run.invariant.any
            (some_table (arc_value run) (grind (arith, c.is_empty.ensures, w.if-not-is_empty.true)))
            w.in_ok-scanner_of.ensures.any);
        loads = loads_more arc_value RunScansNext runs i run less is c.loop-run.invariant.loads w.in_ok-scanner_of.ensures.opens;
      }
      | else-not-is_empty w ↦ record {
        held = λ able. absurd (grind (arith, own_tables arc_value runs able i run less is, c.is_empty.ensures, w.if-not-is_empty.false));
        any = rw w.scanners-is (scan_passed arc_value RunScansNext runs i run less is c.loop-run.scanners.items c.loop-run.invariant.any
            (no_table (arc_value run) (grind (arith, c.is_empty.ensures, w.if-not-is_empty.false))));
        loads = loads_more arc_value RunScansNext runs i run less is c.loop-run.invariant.loads
            (no_block (arc_value run) (grind (arith, c.is_empty.ensures, w.if-not-is_empty.false)));
      }
    ]

pub returns-in_err-scanner_of-clause-err : goal.returns-in_err-scanner_of-clause-err
returns-in_err-scanner_of-clause-err g c able =
    wants c.from_residual.result c.in_err-scanner_of.field-0.0 c.from_residual.ensures.1
    (own_fact arc_value c.args.runs.now able c.loop-run.run-index c.run-item.result c.loop-run-test.true c.run-item.is c.in_err-scanner_of.ensures.refused)

pub returns-clause-list : goal.returns-clause-list
returns-clause-list g c able = scanned_all arc_value c.args.runs.now able c.loop-run.run-index RunScansNext nowhere c.loop-run.scanners.items (c.loop-run.invariant.held able) c.loop-run-test.false

pub returns-in_err-scanner_of-clause-returned : goal.returns-in_err-scanner_of-clause-returned
returns-in_err-scanner_of-clause-returned g c =
    err_passed (λ (e : Error). is_memory e ≡ false → BeginsWith (map arc_value c.args.runs.now) e) c.from_residual.result c.in_err-scanner_of.field-0.0 c.from_residual.ensures.1
    (λ fine. scan_begins arc_value RunScansNext c.args.runs.now c.loop-run.run-index c.run-item.result c.loop-run-test.true c.run-item.is c.in_err-scanner_of.field-0.0
    (some_table (arc_value c.run-item.result) (grind (arith, c.is_empty.ensures, c.if-not-is_empty.true)))
    c.loop-run.invariant.loads (c.in_err-scanner_of.ensures.opens fine)
    (c.in_err-scanner_of.ensures.returned fine))

pub returns-clause-any : goal.returns-clause-any
returns-clause-any g c = scan_all arc_value RunScansNext c.args.runs.now c.loop-run.scanners.items c.loop-run.run-index c.loop-run.invariant.any c.loop-run-test.false

pub returns-in_err-scanner_of-clause-opens : goal.returns-in_err-scanner_of-clause-opens
returns-in_err-scanner_of-clause-opens g c =
    faults_refusal c.from_residual.result c.in_err-scanner_of.field-0.0 _ c.from_residual.ensures.1
    (λ fine. blocks_fail arc_value RunScansNext c.args.runs.now c.loop-run.run-index c.run-item.result c.loop-run-test.true c.run-item.is c.in_err-scanner_of.field-0.0 c.loop-run.invariant.loads (c.in_err-scanner_of.ensures.opens fine))

pub returns-clause-opens : goal.returns-clause-opens
returns-clause-opens g c = loads_all arc_value RunScansNext c.args.runs.now c.loop-run.run-index c.loop-run.invariant.loads c.loop-run-test.false

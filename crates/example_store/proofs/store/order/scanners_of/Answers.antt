use Rattle.std.proofs.Common.{◌<◌, ap, length, subst, List}
use Rattle.std.specs.Prelude.{map}
use Rattle.std.specs.Arc.{arc_value}
use Rattle.std.specs.List.{AllZip}
use Rattle.std.proofs.lemmas.List.{take_all}
use Rattle.lsm_tables.specs.Words.{OpenTable, OutOfMemory}
use Rattle.lsm_tables.proofs.TableLaws.{all_at}
use Rattle.example_store.proofs.Order.{ScansRun, lists_at_place, scan_more, scans_together}
use Rattle.example_store.proofs.Refusing.{wanted}
use Rattle.example_store.proofs.store.order.scanners_of.Goals as goal

pub loop-run-init : goal.loop-run-init
loop-run-init g c = rw c.new-scanners.ensures.items tt

pub scanner_of-requires : goal.scanner_of-requires
scanner_of-requires g c = all_at arc_value (λ (run : List OpenTable). 0 < length run) c.args.runs.now c.loop-run.run-index c.run-item.result c.requires.some c.loop-run-test.true c.run-item.is

pub loop-run-preserved : goal.loop-run-preserved
loop-run-preserved g c =
    rw c.in_ok-push.ensures.items
    (scan_more arc_value ScansRun c.args.runs.now c.loop-run.run-index c.run-item.result c.loop-run.scanners.items c.in_ok-scanner_of.field-0 c.loop-run.invariant c.loop-run-test.true c.run-item.is
    (λ ls held some. c.in_ok-scanner_of.ensures.list ls held some))

pub returns-in_err-scanner_of-clause-memory : goal.returns-in_err-scanner_of-clause-memory
returns-in_err-scanner_of-clause-memory g c lists held some =
    let here = lists_at_place arc_value c.args.runs.now lists c.loop-run.run-index c.run-item.result held some c.loop-run-test.true c.run-item.is in
    wanted OutOfMemory c.from_residual-in_err-scanner_of.result c.in_err-scanner_of.field-0.0 c.from_residual-in_err-scanner_of.ensures.1
    (c.in_err-scanner_of.ensures.memory here.0 here.1 here.2)

pub returns-clause-list : goal.returns-clause-list
returns-clause-list g c lists held some =
    let scanners = c.loop-run.scanners.items in
    scans_together scanners (map arc_value c.args.runs.now) lists
    (subst (AllZip ScansRun scanners) (ap (map arc_value) (take_all c.loop-run.run-index c.args.runs.now c.loop-run-test.false)) c.loop-run.invariant)
    held some

use Rattle.std.proofs.Common.{subst, sym}
use Rattle.lsm_readers.specs.Scan.{IsEndedScan}
use Rattle.sst_c.proofs.Scanning.{ends_by, over_by, same_scan}
use Rattle.sst_c.proofs.scans.step.Goals as goal

pub returns-in-Scan-clause-ends : goal.returns-in-Scan-clause-ends
returns-in-Scan-clause-ends c s same none =
    ends_by c.in-Scan.scanner c.step_scan.new.scanner c.step_scan.result c.step_scan.new.scanner.lent
    c.step_scan.ensures.steps (rw c.set_lent.ensures at none)

-- where nothing is left, nothing comes
pub returns-in-Scan-clause-over : goal.returns-in-Scan-clause-over
returns-in-Scan-clause-over c s same over =
    let scan = c.in-Scan.scanner in
    let one = same_scan c.args.held.now.what scan s c.in-Scan.is same in
    rw c.set_lent.ensures
    (over_by scan c.step_scan.new.scanner c.step_scan.result c.step_scan.new.scanner.lent
    c.step_scan.ensures.steps (subst IsEndedScan (sym one) over))

use Rattle.std.proofs.Common.{subst}
use Rattle.lsm_readers.specs.Words.{OpenTable}
use Rattle.sst_c.specs.Scans.{ReportsScan}
use Rattle.sst_c.proofs.Scanning.{scan_held}
use Rattle.sst_c.proofs.Verifying.{same_table}
use Rattle.sst_c.proofs.scans.begin.Goals as goal

-- the table that is scanned is the one that is held
pub returns-clause-reports : goal.returns-clause-reports
returns-clause-reports c t same =
    let P : OpenTable → Type 0 = λ u. ReportsScan u c.begin_scan.result in
    let at : P c.in-Table.table = record {
      returned = c.begin_scan.ensures.returned;
      early = c.begin_scan.ensures.early;
      fine = c.begin_scan.ensures.fine;
    } in
    subst P (same_table c.args.held.now.what c.in-Table.table t c.in-Table.is same) at

pub returns-clause-scans : goal.returns-clause-scans
returns-clause-scans c zero =
    scan_held c.begin_scan.new.scan.boxed.value c.args.held.now.what c.in-Table.table c.in-Table.is
    (c.begin_scan.ensures.scans zero)

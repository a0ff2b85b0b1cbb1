use Rattle.std.proofs.Common.{subst}
use Rattle.lsm_readers.specs.point.Table.{OpenTable}
use Rattle.lsm_runs.specs.RunScan.{BeginsScan, early_scan_fault, scan_fault}
use Rattle.sst_entries.specs.Error.{Faults, FaultsFirst}
use Rattle.lsm_run_parts.proofs.Places.{same_there}
use Rattle.lsm_runs.proofs.ScanSteps.{begins}
use Rattle.lsm_runs.proofs.run_scanner.scan_at.Goals as goal

pub returns-clause-begins : goal.returns-clause-begins
returns-clause-begins g c t at =
    let u = c.index-tables-place.result in
    subst (λ (x : OpenTable). BeginsScan x c.scan.result) (same_there c.args.tables.now c.args.place u t c.requires c.index-tables-place.is at) (begins u c.scan.result c.scan.ensures.left c.scan.ensures.refused)

pub returns-clause-refused : goal.returns-clause-refused
returns-clause-refused g c t at =
    let u = c.index-tables-place.result in
    subst (λ (x : OpenTable). Faults c.scan.result (scan_fault x)) (same_there c.args.tables.now c.args.place u t c.requires c.index-tables-place.is at) c.scan.ensures.refused

pub returns-clause-early : goal.returns-clause-early
returns-clause-early g c t at =
    let u = c.index-tables-place.result in
    subst (λ (x : OpenTable). FaultsFirst c.scan.result (early_scan_fault x)) (same_there c.args.tables.now c.args.place u t c.requires c.index-tables-place.is at) c.scan.ensures.early

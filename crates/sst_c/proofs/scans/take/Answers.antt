use Rattle.lsm_readers.specs.Scan.{Scan, ScansLent}
use Rattle.std.proofs.Common.{◌≡◌}
use Rattle.sst_c.proofs.Bulk.{ended_many, runs_scan_many, scan_many}
use Rattle.sst_c.specs.Reported.{found_by}
use Rattle.sst_c.specs.Steps.{StepsBy}
use Rattle.sst_c.specs.Takes.{ReadsMany}
use Rattle.sst_c.specs.What.{IsScanWhere}
use Rattle.sst_c.specs.declared.held.What.TheVariants.{Scan as ScanOf}
use Rattle.sst_c.proofs.scans.take.Goals as goal

pub returns-clause-takes : goal.returns-clause-takes
returns-clause-takes c =
    let a = c.args in
    let n = c.take_held.new in
    let reads : (s : Scan) → a.held.now.what ≡ ScanOf s → IsScanWhere (ReadsMany (StepsBy ScansLent) s
    a.entries.now n.entries a.bytes.now n.bytes n.count c.take_held.result (found_by n.held)) n.held.what =
    λ s same. scan_many _ _ _ _ a.held.now.what n.held.what s a.entries.now n.entries a.bytes.now n.bytes n.count
    c.take_held.result (found_by n.held) same c.take_held.ensures in
    record {
      reads = reads;
      ends = λ s same none left. ended_many n.held.what s a.entries.now n.entries a.bytes.now n.bytes n.count
          c.take_held.result (found_by n.held) (reads s same) none left;
      runs = λ m same. runs_scan_many _ _ _ _ a.held.now.what n.held.what m a.entries.now n.entries a.bytes.now
          n.bytes n.count c.take_held.result (found_by n.held) same c.take_held.ensures;
    }

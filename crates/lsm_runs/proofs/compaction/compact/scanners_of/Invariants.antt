use Rattle.std.proofs.Common.{◌≡◌, take}
use Rattle.std.specs.Prelude.{None, map}
use Rattle.lsm_runs.specs.compaction.AnyRuns.{first_blocks_fault}
use Rattle.std.specs.Arc.{arc_value}
use Rattle.sst_entries.specs.Stream.{nowhere}
use Rattle.lsm_runs.specs.compaction.Compacted.{AreMergeable}
use Rattle.lsm_runs.specs.RunScan.{RunScansNext}
use Rattle.lsm_runs.proofs.AnyScans.{ScanSoFar}
use Rattle.lsm_runs.proofs.Scanners.{ScannedSoFar}
use Rattle.lsm_runs.proofs.compaction.compact.scanners_of.Given as goal

abbrev pub invariant-loop-run : goal.invariant-loop-run
invariant-loop-run g l = record {
  held : (able : AreMergeable (map arc_value l.runs))
      → ScannedSoFar arc_value l.runs able l.run-index RunScansNext nowhere l.scanners.items
      l.run-index;
  any : ScanSoFar arc_value RunScansNext l.runs l.scanners.items l.run-index;
  loads : first_blocks_fault (take l.run-index (map arc_value l.runs)) ≡ None;
}

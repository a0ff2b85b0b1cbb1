use Rattle.std.proofs.Common.{◌≡◌}
use Rattle.std.specs.Prelude.{List}
use Rattle.lsm_runs.specs.compaction.AnyRuns.{YieldsResults}
use Rattle.lsm_sorted.specs.merge.Ends.{R}
use Rattle.lsm_sorted.specs.merge.Union.{errors_among}
use Rattle.lsm_readers.specs.Scan.{ScansLent, scan_size}
use Rattle.sst_tool.proofs.make.scanned.first_refusal.Given as goal

abbrev pub invariant-loop-error : goal.invariant-loop-error
invariant-loop-error g l = (rs : List R) → YieldsResults ScansLent rs l.fn.items
    → (rest : List R) × YieldsResults ScansLent rest l.items
    × (errors_among rs ≡ errors_among rest)

abbrev pub decreases-loop-error : goal.decreases-loop-error
decreases-loop-error g l = scan_size l.items

use Rattle.std.proofs.Common.{◌≡◌}
use Rattle.std.specs.Prelude.{List}
use Rattle.std.specs.Option.{option_map}
use Rattle.sst_entries.specs.Point.{read_place}
use Rattle.sst_entries.specs.Stream.{up_to_error}
use Rattle.sst_entries.specs.Strict.{is_strict_after}
use Rattle.lsm_runs.specs.compaction.AnyRuns.{YieldsResults}
use Rattle.lsm_sorted.specs.merge.Ends.{R}
use Rattle.lsm_sorted.specs.merge.Union.{entries_among}
use Rattle.lsm_readers.specs.Scan.{ScansLent, scan_size}
use Rattle.sst_tool.specs.make.Scanned.{come_in_order}
use Rattle.sst_tool.proofs.make.scanned.is_in_order.Given as goal

abbrev pub invariant-loop-error : goal.invariant-loop-error
invariant-loop-error g l = (rs : List R) → YieldsResults ScansLent rs l.fn.items
    → (rest : List R) × YieldsResults ScansLent rest l.items
    × (come_in_order rs
    ≡ is_strict_after (option_map (read_place l.key.items) l.last) (entries_among (up_to_error rest)))

abbrev pub decreases-loop-error : goal.decreases-loop-error
decreases-loop-error g l = scan_size l.items

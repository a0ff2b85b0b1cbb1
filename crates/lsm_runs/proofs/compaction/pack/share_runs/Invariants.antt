use Rattle.std.proofs.Common.{◌≡◌, take}
use Rattle.std.specs.Prelude.{filter, map}
use Rattle.std.specs.Arc.{arc_value}
use Rattle.lsm_runs.specs.compaction.Packed.{has_table}
use Rattle.lsm_runs.proofs.compaction.pack.share_runs.Given as goal

abbrev pub invariant-loop-run : goal.invariant-loop-run
invariant-loop-run g l = l.shared.items ≡ filter has_table (map arc_value (take l.run-index l.runs))

use Rattle.std.proofs.Common.{◌≡◌, take}
use Rattle.std.specs.Prelude.{map}
use Rattle.std.specs.Arc.{arc_value}
use Rattle.sst_tool.specs.make.Compacted.{each_alone}
use Rattle.sst_tool.proofs.make.compact.runs_of.Given as goal

abbrev pub invariant-loop-table : goal.invariant-loop-table
invariant-loop-table g l =
    map arc_value l.runs.items ≡ each_alone (take l.table-index l.tables)

use Rattle.std.proofs.Common.{◌≡◌, take}
use Rattle.sst_tool.specs.make.Compacted.{counted}
use Rattle.sst_tool.proofs.make.compact.count_entries.Given as goal

abbrev pub invariant-loop-table : goal.invariant-loop-table
invariant-loop-table g l = l.count ≡ counted (take l.table-index l.tables)

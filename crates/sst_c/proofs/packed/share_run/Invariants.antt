use Rattle.std.proofs.Common.{◌≡◌, ◌++◌, take}
use Rattle.sst_c.proofs.packed.share_run.Given as goal

abbrev pub invariant-loop-table : goal.invariant-loop-table
invariant-loop-table l = l.tables.items ≡ l.initial.tables.items ++ take l.table-index l.table-items

use Rattle.std.proofs.Common.{◌≡◌, take}
use Rattle.lsm_runs.proofs.compaction.pack.share_tables.Given as goal

abbrev pub invariant-loop-table : goal.invariant-loop-table
invariant-loop-table g l = l.tables.items ≡ take l.table-index l.table-items

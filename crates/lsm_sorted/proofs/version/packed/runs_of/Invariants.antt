use Rattle.std.proofs.Common.{◌≡◌, ◌++◌, length}
use Rattle.lsm_sorted.specs.version.Packed.{alone}
use Rattle.lsm_sorted.proofs.version.packed.runs_of.Given as goal

abbrev pub invariant-loop-table : goal.invariant-loop-table
invariant-loop-table g l =
    l.runs.items ++ alone (length l.runs.items) l.table-iterator.rest.items
    ≡ alone 0 l.fn.tables.items

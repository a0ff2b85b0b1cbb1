use Rattle.std.proofs.Common.{◌≡◌, take}
use Rattle.lsm_tables.specs.Words.{ok_results, within}
use Rattle.example_store.proofs.memtable.items_within.Given as goal

abbrev pub invariant-loop-item : goal.invariant-loop-item
invariant-loop-item g l =
    l.found.items ≡ ok_results (within l.bounds.0 l.bounds.1 (take l.item-index l.items))

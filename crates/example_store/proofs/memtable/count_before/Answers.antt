use Rattle.std.proofs.Common.{rules}
use Rattle.std.proofs.lemmas.List.Sorted.{IsPartitionPoint-from_clause}
use Rattle.lsm_tables.specs.Words.{Entry, is_before}
use Rattle.example_store.proofs.Places.{before_cuts, place_is}
use Rattle.example_store.proofs.memtable.count_before.Goals as goal

pub returns-clause-exact : goal.returns-clause-exact
returns-clause-exact g c strict =
    let passes = λ (x : Entry). is_before x c.args.item.now in
    let point = IsPartitionPoint-from_clause passes _ _ c.partition_point.ensures.partitioned (before_cuts c.args.items.now c.args.item.now strict) (λ a r q k. search rules) in
    place_is passes c.args.items.now c.partition_point.result c.partition_point.ensures.bound point

use Rattle.std.proofs.Common.{rules}
use Rattle.std.specs.Prelude.{not}
use Rattle.std.proofs.lemmas.List.Sorted.{IsPartitionPoint-from_clause}
use Rattle.lsm_tables.specs.Words.{Entry, is_before, read_place}
use Rattle.lsm_tables.proofs.TableLaws.{past_parted}
use Rattle.example_store.proofs.Places.{place_is}
use Rattle.example_store.proofs.memtable.count_up_to.Goals as goal

pub returns-clause-exact : goal.returns-clause-exact
returns-clause-exact g c strict =
    let passes = λ (x : Entry). not (is_before (read_place c.args.key.now c.args.seqno) x) in
    let point = IsPartitionPoint-from_clause passes _ _ c.partition_point.ensures.partitioned (past_parted c.args.items.now c.args.key.now c.args.seqno strict) (λ a r q k. search rules) in
    place_is passes c.args.items.now c.partition_point.result c.partition_point.ensures.bound point

use Rattle.std.proofs.Common.{rules}
use Rattle.std.specs.Prelude.{not}
use Rattle.std.proofs.lemmas.List.Sorted.{IsPartitionPoint-from_clause}
use Rattle.sst_entries.specs.Entry.{Entry}
use Rattle.sst_entries.specs.Key.{key_lt}
use Rattle.sst_blocks.proofs.Points.{up_to_parted}
use Rattle.lsm_runs.proofs.LentSources.{place_is}
use Rattle.lsm_runs.proofs.lent_entries.count_up_to.Goals as goal

pub returns-clause-exact : goal.returns-clause-exact
returns-clause-exact g c strict =
    let passes = λ (x : Entry). not (key_lt c.args.key.now x.user_key) in
    let point = IsPartitionPoint-from_clause passes _ _ c.partition_point.ensures.partitioned (up_to_parted c.args.items.now c.args.key.now strict) (λ a r q k. search rules) in
    place_is passes c.args.items.now c.partition_point.result c.partition_point.ensures.bound point

-- The tables that end within the key stand in front.
use Rattle.std.proofs.Common.{◌∙◌, sym, rules}
use Rattle.std.proofs.lemmas.List.Sorted.{IsPartitionPoint-from_clause}
use Rattle.lsm_sorted.specs.version.KeyRange.{Interval, key_le}
use Rattle.lsm_sorted.proofs.RunLemmas.{partitioned, point_count, how_many-map, falls-ends_within}
use Rattle.lsm_sorted.proofs.version.run.count_ends_within.Goals as goal

pub returns-clause-exact : goal.returns-clause-exact
returns-clause-exact g c ordered =
    let range = g.T.Ranged.range in
    let passes = λ (r : Interval). key_le r.max c.args.key.now in
    let point = IsPartitionPoint-from_clause (λ t. passes (range t)) _ _ c.partition_point.ensures.partitioned (partitioned range passes (falls-ends_within c.args.key.now) c.args.tables.now ordered) (λ a r q k. search rules) in
    sym (how_many-map range passes c.args.tables.now ∙ point_count _ c.args.tables.now c.partition_point.result c.partition_point.ensures.bound point)

-- The tables that start within the bound stand in front.
use Rattle.std.proofs.Common.{◌∙◌, sym, rules}
use Rattle.std.proofs.lemmas.List.Sorted.{IsPartitionPoint-from_clause}
use Rattle.lsm_sorted.specs.version.KeyRange.{key_bound}
use Rattle.lsm_sorted.specs.version.Run.{starts_within}
use Rattle.lsm_sorted.proofs.RunLemmas.{partitioned, point_count, how_many-map, falls-starts_within}
use Rattle.lsm_sorted.proofs.version.run.count_starts_within.Goals as goal

pub returns-clause-exact : goal.returns-clause-exact
returns-clause-exact g c ordered =
    let range = g.T.Ranged.range in
    let passes = starts_within (key_bound c.args.upper) in
    let point = IsPartitionPoint-from_clause (λ t. passes (range t)) _ _ c.partition_point.ensures.partitioned (partitioned range passes (falls-starts_within (key_bound c.args.upper)) c.args.tables.now ordered) (λ a r q k. search rules) in
    sym (how_many-map range passes c.args.tables.now ∙ point_count _ c.args.tables.now c.partition_point.result c.partition_point.ensures.bound point)

-- The places that start within the upper bound, of those that do not end before the lower one.
use Rattle.std.proofs.Common.{◌∙◌, sym}
use Rattle.lsm_sorted.specs.version.KeyRange.{key_bound}
use Rattle.lsm_sorted.proofs.RunLemmas.{indexes_found, first_and_last-none, first_and_last-some}
use Rattle.lsm_sorted.proofs.version.run.Run.range_overlap_indexes.Goals as goal

pub returns-then-count-eq0-clause-found : goal.returns-then-count-eq0-clause-found
returns-then-count-eq0-clause-found g c ordered =
    sym (indexes_found g.T.Ranged.range (key_bound c.args.lower) (key_bound c.args.upper) c.args.self.now c.as_slice-tables.result.now c.split_at.result.1.now
    c.count_ends_before-first.result c.count_starts_within-count.result (c.as_slice-tables.ensures.value ∙ c.self.view_is)
    c.count_ends_before-first.ensures.exact c.split_at.ensures.back c.count_starts_within-count.ensures.exact ordered
    ∙ first_and_last-none c.count_ends_before-first.result c.count_starts_within-count.result c.if-count-eq0.true)

pub returns-else-count-eq0-clause-found : goal.returns-else-count-eq0-clause-found
returns-else-count-eq0-clause-found g c ordered =
    sym (indexes_found g.T.Ranged.range (key_bound c.args.lower) (key_bound c.args.upper) c.args.self.now c.as_slice-tables.result.now c.split_at.result.1.now
    c.count_ends_before-first.result c.count_starts_within-count.result (c.as_slice-tables.ensures.value ∙ c.self.view_is)
    c.count_ends_before-first.ensures.exact c.split_at.ensures.back c.count_starts_within-count.ensures.exact ordered
    ∙ first_and_last-some c.count_ends_before-first.result c.count_starts_within-count.result c.if-count-eq0.false)

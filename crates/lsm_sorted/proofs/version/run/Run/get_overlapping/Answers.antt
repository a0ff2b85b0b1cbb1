-- Of the tables that do not end before the range, those that start within it.
use Rattle.std.proofs.Common.{◌∙◌}
use Rattle.lsm_sorted.proofs.RunLemmas.{overlapping}
use Rattle.lsm_sorted.proofs.version.run.Run.get_overlapping.Goals as goal

pub returns-clause-found : goal.returns-clause-found
returns-clause-found g c =
    overlapping g.T.Ranged.range c.args.key_range.now c.args.self.now c.as_slice-tables.result.now c.split_at.result.1.now c.split_at-2.result.0.now
    c.as_slice.result.now c.as_slice-2.result.now c.count_ends_before.result c.count_starts_within.result (c.as_slice-tables.ensures.value ∙ c.self.view_is)
    (c.as_slice.ensures ∙ c.min.ensures) (c.as_slice-2.ensures ∙ c.max.ensures)
    c.count_ends_before.ensures.exact c.split_at.ensures.back c.count_starts_within.ensures.exact c.split_at-2.ensures.front

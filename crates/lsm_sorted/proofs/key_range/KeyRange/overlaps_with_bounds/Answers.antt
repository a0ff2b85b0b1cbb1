-- A key of the range within both bounds is at most the greatest and at least the least.
use Rattle.std.proofs.Common.{rules}
use Rattle.lsm_sorted.specs.version.KeyRange.{key_bound}
use Rattle.lsm_sorted.proofs.IntervalLemmas.{none_within}
use Rattle.lsm_sorted.proofs.key_range.KeyRange.overlaps_with_bounds.Goals as goal

pub returns-then-is_from_lower-clause-outside : goal.returns-then-is_from_lower-clause-outside
returns-then-is_from_lower-clause-outside g c = none_within c.args.self.now (key_bound c.args.bounds.now.0) (key_bound c.args.bounds.now.1) c.is_up_to_upper.result (search rules)

pub returns-else-is_from_lower-clause-outside : goal.returns-else-is_from_lower-clause-outside
returns-else-is_from_lower-clause-outside g c = none_within c.args.self.now (key_bound c.args.bounds.now.0) (key_bound c.args.bounds.now.1) c.is_from_lower.result (search rules)

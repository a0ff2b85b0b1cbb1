-- What overlaps shares a key, and the other way round.
use Rattle.std.proofs.Common.{rules}
use Rattle.lsm_sorted.proofs.IntervalLemmas.{overlap_says}
use Rattle.lsm_sorted.proofs.key_range.KeyRange.overlaps_with_key_range.Goals as goal

pub returns-then-is_at_most-clause-shared : goal.returns-then-is_at_most-clause-shared
returns-then-is_at_most-clause-shared g c = overlap_says c.args.self.now c.args.other.now c.is_at_most-then-is_at_most.result (search rules)

pub returns-else-is_at_most-clause-shared : goal.returns-else-is_at_most-clause-shared
returns-else-is_at_most-clause-shared g c = overlap_says c.args.self.now c.args.other.now c.is_at_most.result (search rules)

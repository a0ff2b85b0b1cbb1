-- The ranges are disjoint where those that are left are.
use Rattle.std.proofs.Common.{◌≡◌, drop}
use Rattle.lsm_sorted.specs.version.KeyRange.{are_disjoint, intervals}
use Rattle.lsm_sorted.proofs.key_range.KeyRange.is_disjoint.Given as goal

abbrev pub invariant-loop-place : goal.invariant-loop-place
invariant-loop-place g l =
    are_disjoint (intervals l.ranges) ≡ are_disjoint (intervals (drop l.place l.ranges))

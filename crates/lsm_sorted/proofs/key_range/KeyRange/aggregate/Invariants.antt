-- What the ends become along the ranges that are left is what they become along all.
use Rattle.std.proofs.Common.{◌≡◌, drop}
use Rattle.lsm_sorted.specs.version.KeyRange.{intervals}
use Rattle.lsm_sorted.proofs.SpanLemmas.{span_from}
use Rattle.lsm_sorted.proofs.key_range.KeyRange.aggregate.Given as goal

abbrev pub invariant-loop-other : goal.invariant-loop-other
invariant-loop-other g l =
    span_from l.initial.min l.initial.max (intervals l.others)
    ≡ span_from l.min l.max (intervals (drop l.other-index l.others))

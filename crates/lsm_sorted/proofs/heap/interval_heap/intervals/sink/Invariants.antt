use Rattle.std.proofs.Common.{◌≡◌, ◌-◌, length}
use Rattle.std.specs.List.Sorted.{IsPermutation}
use Rattle.lsm_sorted.specs.merge.Intervals.{IsSinkingAt}
use Rattle.lsm_sorted.proofs.heap.interval_heap.intervals.sink.Given as goal

abbrev pub invariant-loop-child : goal.invariant-loop-child
invariant-loop-child g l = record {
  items : IsPermutation l.fn.items l.items;
  same : length l.items ≡ length l.fn.items;
  sinking : IsSinkingAt l.side g.T.Ord.cmp l.items l.place;
}

abbrev pub decreases-loop-child : goal.decreases-loop-child
decreases-loop-child g l = length l.initial.items - l.place

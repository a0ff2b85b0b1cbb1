use Rattle.std.proofs.Common.{◌≡◌, length}
use Rattle.std.specs.List.Sorted.{IsPermutation}
use Rattle.lsm_sorted.specs.merge.Intervals.{IsRisingAt}
use Rattle.lsm_sorted.proofs.heap.interval_heap.intervals.rise.Given as goal

abbrev pub invariant-loop-place : goal.invariant-loop-place
invariant-loop-place g l = record {
  items : IsPermutation l.fn.items l.items;
  same : length l.items ≡ length l.fn.items;
  rising : IsRisingAt l.side g.T.Ord.cmp l.items l.place;
}

abbrev pub decreases-loop-place : goal.decreases-loop-place
decreases-loop-place g l = l.place

use Rattle.std.proofs.Common.{◌≡◌, length}
use Rattle.std.specs.Ordering.{nat_cmp}
use Rattle.std.specs.Cmp.Lexicographic.{slice_cmp}
use Rattle.sst_entries.proofs.Bytes.{IsBytes}
use Rattle.lsm_sorted.proofs.heap.words.compare_bytes.Given as goal

abbrev pub invariant-loop-a : goal.invariant-loop-a
invariant-loop-a l = record {
  rest : slice_cmp nat_cmp l.fn.first l.fn.second ≡ slice_cmp nat_cmp l.x l.y;
  fits_x : IsBytes l.x;
  fits_y : IsBytes l.y;
}

abbrev pub decreases-loop-a : goal.decreases-loop-a
decreases-loop-a l = length l.x

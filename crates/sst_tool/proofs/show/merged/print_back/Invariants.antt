-- The items may be read on and end. What was printed and what may still be are together what may
-- be.
use Rattle.std.proofs.Common.{Bool, List, ◌≤◌}
use Rattle.std.specs.Iterator.{IsFinite, size}
use Rattle.sst_entries.specs.Stream.{CanYield, YieldsExactly, answer_stops, nowhere}
use Rattle.sst_entries.specs.declared.error.Error.{Error}
use Rattle.sst_tool.proofs.MergedLemmas.{Printing}
use Rattle.sst_tool.specs.show.Read.{Outcome}
use Rattle.sst_tool.proofs.show.merged.print_back.Given as goal

abbrev pub invariant-loop-left : goal.invariant-loop-left
invariant-loop-left g l = record {
  can : CanYield g.I.Iterator.next_gives g.I.DoubleEndedIterator.next_back_gives g.I.Iterator.can_next
      g.I.DoubleEndedIterator.can_next_back l.items;
  finite : IsFinite (g.I.Iterator.remaining l.items);
  few : l.left ≤ l.fn.most;
  prints : (stops : Error → Bool) (rs : List Outcome)
      → YieldsExactly (answer_stops stops) g.I.DoubleEndedIterator.next_back_gives nowhere l.fn.items rs
      → Printing g.I.DoubleEndedIterator.next_back_gives stops l.fn.most rs l.items l.left;
}

abbrev pub decreases-loop-left : goal.decreases-loop-left
decreases-loop-left g l = size (g.I.Iterator.remaining l.items)

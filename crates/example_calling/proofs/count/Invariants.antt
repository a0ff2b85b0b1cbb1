use Rattle.std.specs.Prelude.{List}
use Rattle.lsm_tables.specs.Words.{YieldsList, Entry}
use Rattle.example_calling.proofs.Counting.{Counts}
use Rattle.example_calling.proofs.count.Given as goal

abbrev pub invariant-loop-item : goal.invariant-loop-item
invariant-loop-item g l = record {
  can : (goal.iterator-loop-item g).can_next l.item-iterator;
  finite : (goal.iterator-loop-item g).is_finite l.item-iterator;
  counts : (es : List Entry)
      → YieldsList g.I.Iterator.next_gives g.I.DoubleEndedIterator.next_back_gives es l.fn.items
      → Counts g.I.Iterator.next_gives g.I.DoubleEndedIterator.next_back_gives es l.count
      l.item-iterator;
}

use Rattle.std.proofs.Common.{◌<◌}
use Rattle.std.specs.Prelude.{None}
use Rattle.lsm_sorted.specs.merge.Ends.{Goes}
use Rattle.lsm_sorted.specs.Peeked.{peeked_size}
use Rattle.sst_entries.specs.declared.stream.Direction.TheVariants.{Back}
use Rattle.lsm_sorted.specs.Hears.{Hears}
use Rattle.lsm_sorted.specs.Mvcc.{mvcc_outlook}
use Rattle.lsm_sorted.proofs.MvccLemmas.{Scaled}
use Rattle.lsm_sorted.proofs.mvcc_stream.MvccStreamDoubleEndedIterator.next_back.Given as goal

abbrev pub invariant-loop-before : goal.invariant-loop-before
invariant-loop-before g l =
    let front = g.I.Iterator.next_gives in
    let back = g.I.DoubleEndedIterator.next_back_gives in
    let left = g.I.Iterator.remaining in
    record {
      may : Goes front back g.I.Iterator.can_next g.I.DoubleEndedIterator.can_next_back left
          l.self.inner.source;
      hears : Hears back Back None (Scaled l.tail) (mvcc_outlook l.fn.self) (mvcc_outlook l.self);
      fewer : peeked_size left l.self.inner < peeked_size left l.fn.self.inner;
    }

abbrev pub decreases-loop-before : goal.decreases-loop-before
decreases-loop-before g l = peeked_size g.I.Iterator.remaining l.self.inner

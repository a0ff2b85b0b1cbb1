use Rattle.std.proofs.Common.{◌<◌}
use Rattle.std.specs.Prelude.{None}
use Rattle.lsm_sorted.specs.merge.Ends.{Goes}
use Rattle.lsm_sorted.specs.Peeked.{peeked_size}
use Rattle.sst_entries.specs.Stream.{nowhere}
use Rattle.sst_entries.specs.declared.stream.Direction.TheVariants.{Front}
use Rattle.lsm_sorted.specs.Hears.{Hears}
use Rattle.lsm_sorted.specs.Mvcc.{mvcc_outlook}
use Rattle.lsm_sorted.proofs.MvccLemmas.{Drawn}
use Rattle.lsm_sorted.proofs.mvcc_stream.MvccStreamIterator.next.Given as goal

abbrev pub invariant-loop-other : goal.invariant-loop-other
invariant-loop-other g l =
    let front = g.I.Iterator.next_gives in
    let left = g.I.Iterator.remaining in
    record {
      may : Goes front nowhere g.I.Iterator.can_next g.I.Iterator.can_next left l.self.inner.source;
      hears : Hears front Front None (Drawn l.head) (mvcc_outlook l.fn.self) (mvcc_outlook l.self);
      fewer : peeked_size left l.self.inner < peeked_size left l.fn.self.inner;
    }

abbrev pub decreases-loop-other : goal.decreases-loop-other
decreases-loop-other g l = peeked_size g.I.Iterator.remaining l.self.inner

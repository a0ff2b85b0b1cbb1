use Rattle.std.specs.Prelude.{None}
use Rattle.std.proofs.Common.{◌≡◌, ◌≤◌, Bool}
use Rattle.sst_entries.specs.declared.error.Error.{Error}
use Rattle.sst_entries.specs.Stream.{nowhere}
use Rattle.lsm_sorted.specs.merge.Ends.{Goes}
use Rattle.lsm_sorted.specs.Ahead.{HoldsAhead, ahead_size}
use Rattle.lsm_sorted.specs.CompactionState.{rules_of}
use Rattle.lsm_sorted.proofs.GoingLemmas.{Going}
use Rattle.lsm_sorted.proofs.CompactionHears.{Hearing, GoesIn}
use Rattle.lsm_sorted.proofs.compaction.stream.CompactionStreamIterator.next.Given as goal

abbrev pub invariant-loop-head : goal.invariant-loop-head
invariant-loop-head g l = record {
  may : Goes g.I.Iterator.next_gives nowhere g.I.Iterator.can_next g.I.Iterator.can_next
      g.I.Iterator.remaining l.self.inner.source;
  rules : rules_of l.self ≡ rules_of l.fn.self;
  size : ahead_size g.I.Iterator.remaining l.self.inner
      ≤ ahead_size g.I.Iterator.remaining l.fn.self.inner;
  hears : Hearing g.I.Iterator.next_gives None (GoesIn g.I.Iterator.next_gives
      g.F.StreamFilter.gives g.C.DroppedKvCallback.gets
      (rules_of l.fn.self) l.fn.self.filter l.fn.self.dropped_callback l.self.filter
      l.self.dropped_callback) l.fn.self.inner l.self.inner;
  going : (stops : Error → Bool) → Going stops (HoldsAhead stops g.I.Iterator.next_gives)
      g.F.StreamFilter.gives g.C.DroppedKvCallback.gets
      (rules_of l.fn.self) l.fn.self.inner l.fn.self.filter l.fn.self.dropped_callback l.self.inner
      l.self.filter l.self.dropped_callback;
}

abbrev pub decreases-loop-head : goal.decreases-loop-head
decreases-loop-head g l = ahead_size g.I.Iterator.remaining l.self.inner

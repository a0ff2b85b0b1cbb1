use Rattle.std.specs.Prelude.{None}
use Rattle.std.proofs.Common.{◌≡◌, ◌≤◌, Bool}
use Rattle.sst_entries.specs.declared.error.Error.{Error}
use Rattle.sst_entries.specs.Stream.{nowhere}
use Rattle.lsm_sorted.specs.merge.Ends.{Goes}
use Rattle.lsm_sorted.specs.Ahead.{HoldsAhead, ahead_size}
use Rattle.lsm_sorted.specs.CompactionState.{rules_of}
use Rattle.lsm_sorted.proofs.SettleLemmas.{Draining}
use Rattle.lsm_sorted.proofs.CompactionHears.{Hearing, DrawsIn}
use Rattle.lsm_sorted.proofs.compaction.stream.CompactionStream.drain_key.Given as goal

abbrev pub invariant-loop-x : goal.invariant-loop-x
invariant-loop-x g l = record {
  may : Goes g.I.Iterator.next_gives nowhere g.I.Iterator.can_next g.I.Iterator.can_next
      g.I.Iterator.remaining l.self.inner.source;
  rules : rules_of l.self ≡ rules_of l.fn.self;
  filter : l.self.filter ≡ l.fn.self.filter;
  size : ahead_size g.I.Iterator.remaining l.self.inner
      ≤ ahead_size g.I.Iterator.remaining l.fn.self.inner;
  hears : Hearing g.I.Iterator.next_gives None (DrawsIn g.I.Iterator.next_gives
      g.C.DroppedKvCallback.gets l.head.user_key l.fn.self.dropped_callback l.self.dropped_callback)
      l.fn.self.inner l.self.inner;
  draining : (stops : Error → Bool) → Draining stops
      (HoldsAhead stops g.I.Iterator.next_gives) g.C.DroppedKvCallback.gets l.head.user_key
      l.fn.self.inner l.fn.self.dropped_callback l.self.inner l.self.dropped_callback;
}

abbrev pub decreases-loop-x : goal.decreases-loop-x
decreases-loop-x g l = ahead_size g.I.Iterator.remaining l.self.inner

use Rattle.std.proofs.Common.{refl, ◌∙◌, sym, arith}
use Rattle.lsm_sorted.specs.Ahead.{HoldsAhead}
use Rattle.lsm_sorted.proofs.SettleLemmas.{draining_first, draining_more, drained_stop, drained_err, drained_end}
use Rattle.lsm_sorted.proofs.CompactionHears.{hears_undrained, hears_version, hears_stop, hears_stop_err, hears_stop_end}
use Rattle.lsm_sorted.proofs.compaction.stream.CompactionStream.drain_key.Goals as goal

pub loop-x-init : goal.loop-x-init
loop-x-init g c = record {
  may = c.requires;
  rules = refl;
  filter = refl;
  size = omega arith;
  hears = hears_undrained g.I.Iterator.next_gives g.C.DroppedKvCallback.gets c.args.head.now.user_key c.args.self.now.inner c.args.self.now.dropped_callback;
  draining = λ stops. draining_first stops (HoldsAhead stops g.I.Iterator.next_gives) g.C.DroppedKvCallback.gets c.args.head.now.user_key c.args.self.now.inner c.args.self.now.dropped_callback;
}

pub loop-x-preserved : goal.loop-x-preserved
loop-x-preserved g c = record {
  may = c.in-Some-Ok.ensures.goes;
  rules = c.loop-x.invariant.rules;
  filter = c.loop-x.invariant.filter;
  size = omega (arith, c.in-Some-Ok.ensures.lowers, c.loop-x.invariant.size);
  hears = hears_version g.I.Iterator.next_gives g.C.DroppedKvCallback.gets c.args.head.now.user_key c.args.self.now.inner c.loop-x.self.inner c.next.new.self c.args.self.now.dropped_callback c.loop-x.self.dropped_callback c.on_dropped.new.self c.in-Some-Ok.x c.loop-x.invariant.hears (rw c.in-Some-Ok.field-0-is at c.in-Some-Ok.ensures.hears) (sym c.has_key_of.ensures ∙ c.if-not-has_key_of.false) c.on_dropped.ensures;
  draining = λ stops. draining_more stops (HoldsAhead stops g.I.Iterator.next_gives) g.C.DroppedKvCallback.gets c.args.head.now.user_key c.args.self.now.inner c.loop-x.self.inner c.next.new.self c.args.self.now.dropped_callback c.loop-x.self.dropped_callback c.on_dropped.new.self c.in-Some-Ok.x (c.loop-x.invariant.draining stops) (rw c.in-Some-Ok.field-0-is at (c.in-Some-Ok.ensures.yields stops)) (sym c.has_key_of.ensures ∙ c.if-not-has_key_of.false) c.on_dropped.ensures;
}

pub returns-then-not-has_key_of-clause-drains : goal.returns-then-not-has_key_of-clause-drains
returns-then-not-has_key_of-clause-drains g c stops =
    drained_stop stops (HoldsAhead stops g.I.Iterator.next_gives) g.C.DroppedKvCallback.gets c.args.head.now.user_key c.args.self.now.inner c.loop-x.self.inner c.next.new.self c.put_back.new.self c.args.self.now.dropped_callback c.loop-x.self.dropped_callback c.in-Some-Ok.x tt (c.loop-x.invariant.draining stops) (rw c.in-Some-Ok.field-0-is at (c.in-Some-Ok.ensures.yields stops)) (sym c.has_key_of.ensures ∙ c.if-not-has_key_of.true) (c.put_back.ensures.lists stops)

pub returns-in-Some-Err-clause-drains : goal.returns-in-Some-Err-clause-drains
returns-in-Some-Err-clause-drains g c stops = drained_err stops (HoldsAhead stops g.I.Iterator.next_gives) g.C.DroppedKvCallback.gets c.args.head.now.user_key c.args.self.now.inner c.loop-x.self.inner c.next.new.self c.args.self.now.dropped_callback c.loop-x.self.dropped_callback c.in-Some-Err.error (c.loop-x.invariant.draining stops) (rw c.in-Some-Err.field-0-is at (c.in-Some-Err.ensures.yields stops))

pub returns-in-None-clause-drains : goal.returns-in-None-clause-drains
returns-in-None-clause-drains g c stops = drained_end stops (HoldsAhead stops g.I.Iterator.next_gives) g.C.DroppedKvCallback.gets c.args.head.now.user_key c.args.self.now.inner c.loop-x.self.inner c.next.new.self c.args.self.now.dropped_callback c.loop-x.self.dropped_callback tt (c.loop-x.invariant.draining stops) (c.in-None.ensures.yields stops)

pub returns-then-not-has_key_of-clause-hears : goal.returns-then-not-has_key_of-clause-hears
returns-then-not-has_key_of-clause-hears g c =
    hears_stop g.I.Iterator.next_gives g.C.DroppedKvCallback.gets c.args.head.now.user_key c.args.self.now.inner c.loop-x.self.inner c.next.new.self c.put_back.new.self c.args.self.now.dropped_callback c.loop-x.self.dropped_callback c.in-Some-Ok.x tt c.loop-x.invariant.hears
    (rw c.in-Some-Ok.field-0-is at c.in-Some-Ok.ensures.hears) (sym c.has_key_of.ensures ∙ c.if-not-has_key_of.true) c.put_back.ensures.puts

pub returns-in-Some-Err-clause-hears : goal.returns-in-Some-Err-clause-hears
returns-in-Some-Err-clause-hears g c =
    hears_stop_err g.I.Iterator.next_gives g.C.DroppedKvCallback.gets c.args.head.now.user_key c.args.self.now.inner c.loop-x.self.inner c.next.new.self c.args.self.now.dropped_callback c.loop-x.self.dropped_callback c.in-Some-Err.error c.loop-x.invariant.hears
    (rw c.in-Some-Err.field-0-is at c.in-Some-Err.ensures.hears)

pub returns-in-None-clause-hears : goal.returns-in-None-clause-hears
returns-in-None-clause-hears g c =
    hears_stop_end g.I.Iterator.next_gives g.C.DroppedKvCallback.gets c.args.head.now.user_key c.args.self.now.inner c.loop-x.self.inner c.next.new.self c.args.self.now.dropped_callback c.loop-x.self.dropped_callback tt c.loop-x.invariant.hears c.in-None.ensures.hears

use Rattle.std.proofs.Common.{◌≡◌, ◌∙◌, refl, sym, ℕ, ◌+◌, ◌<◌, ◌≤◌, arith}
use Rattle.lsm_sorted.specs.Ahead.{HoldsAhead, ahead_size}
use Rattle.lsm_sorted.proofs.SettleLemmas.{settles_end, settles_err, settles_other, settles_open, settles_closed}
use Rattle.lsm_sorted.proofs.CompactionHears.{hears_settled_end, hears_settled_err, hears_settled_other, hears_settled_open, hears_settled_closed}
use Rattle.lsm_sorted.proofs.compaction.stream.CompactionStream.lets_go.Goals as goal

-- an entry was taken and put back
size_again : (old between new : ℕ) → between < old → new ≡ between + 1 → new ≤ old
size_again old between new less e = omega arith

-- an entry was taken, and then more
size_less : (old between new : ℕ) → between < old → new ≤ between → new ≤ old
size_less old between new less more = omega arith

pub returns-in-Some-Err-clause-settles : goal.returns-in-Some-Err-clause-settles
returns-in-Some-Err-clause-settles g c stops = settles_err stops (HoldsAhead stops g.I.Iterator.next_gives) g.C.DroppedKvCallback.gets _ c.args.head.now _ _ _ c.in-Some-Err.error (rw c.in-Some-Err.field-0-is at (c.in-Some-Err.ensures.yields stops))

pub returns-in-None-clause-settles : goal.returns-in-None-clause-settles
returns-in-None-clause-settles g c stops = settles_end stops (HoldsAhead stops g.I.Iterator.next_gives) g.C.DroppedKvCallback.gets _ c.args.head.now _ _ _ _ (c.in-None.ensures.yields stops) c.goes_alone.ensures

pub returns-then-not-has_key_of-clause-settles : goal.returns-then-not-has_key_of-clause-settles
returns-then-not-has_key_of-clause-settles g c stops =
    settles_other stops (HoldsAhead stops g.I.Iterator.next_gives) g.C.DroppedKvCallback.gets _ c.args.head.now _ c.next.new.self _ _ c.in-Some-Ok.next _ (rw c.in-Some-Ok.field-0-is at (c.in-Some-Ok.ensures.yields stops)) (sym c.has_key_of.ensures ∙ c.if-not-has_key_of.true) (c.put_back.ensures.lists stops) c.goes_alone-then-not-has_key_of.ensures

pub returns-then-not-is_below_threshold-clause-settles : goal.returns-then-not-is_below_threshold-clause-settles
returns-then-not-is_below_threshold-clause-settles g c stops =
    settles_open stops (HoldsAhead stops g.I.Iterator.next_gives) g.C.DroppedKvCallback.gets _ c.args.head.now _ c.next.new.self _ _ c.in-Some-Ok.next (rw c.in-Some-Ok.field-0-is at (c.in-Some-Ok.ensures.yields stops)) (sym c.has_key_of.ensures ∙ c.if-not-has_key_of.false) (sym c.is_below_threshold.ensures ∙ c.if-not-is_below_threshold.true) (c.put_back-then-not-is_below_threshold.ensures.lists stops)

pub returns-clause-settles : goal.returns-clause-settles
returns-clause-settles g c stops =
    let drains = c.drain_hidden-goes.ensures.drains stops in
    settles_closed stops (HoldsAhead stops g.I.Iterator.next_gives) g.C.DroppedKvCallback.gets _ c.args.head.now c.args.self.now.inner c.next.new.self _ c.args.self.now.dropped_callback drains.0 _ c.in-Some-Ok.next (rw c.in-Some-Ok.field-0-is at (c.in-Some-Ok.ensures.yields stops)) (sym c.has_key_of.ensures ∙ c.if-not-has_key_of.false) (sym c.is_below_threshold.ensures ∙ c.if-not-is_below_threshold.false) drains.1 c.drain_hidden-goes.result drains.2 c.drain_hidden-goes.ensures.goes

pub returns-then-not-has_key_of-clause-may : goal.returns-then-not-has_key_of-clause-may
returns-then-not-has_key_of-clause-may g c = rw c.put_back.ensures.source c.in-Some-Ok.ensures.goes

pub returns-then-not-has_key_of-clause-rules : goal.returns-then-not-has_key_of-clause-rules
returns-then-not-has_key_of-clause-rules g c = refl

pub returns-then-not-has_key_of-clause-filter : goal.returns-then-not-has_key_of-clause-filter
returns-then-not-has_key_of-clause-filter g c = refl

pub returns-then-not-has_key_of-clause-size : goal.returns-then-not-has_key_of-clause-size
returns-then-not-has_key_of-clause-size g c = size_again (ahead_size g.I.Iterator.remaining c.args.self.now.inner) (ahead_size g.I.Iterator.remaining c.next.new.self) _ c.in-Some-Ok.ensures.lowers c.put_back.ensures.size

pub returns-then-not-is_below_threshold-clause-may : goal.returns-then-not-is_below_threshold-clause-may
returns-then-not-is_below_threshold-clause-may g c = rw c.put_back-then-not-is_below_threshold.ensures.source c.in-Some-Ok.ensures.goes

pub returns-then-not-is_below_threshold-clause-rules : goal.returns-then-not-is_below_threshold-clause-rules
returns-then-not-is_below_threshold-clause-rules g c = refl

pub returns-then-not-is_below_threshold-clause-filter : goal.returns-then-not-is_below_threshold-clause-filter
returns-then-not-is_below_threshold-clause-filter g c = refl

pub returns-then-not-is_below_threshold-clause-size : goal.returns-then-not-is_below_threshold-clause-size
returns-then-not-is_below_threshold-clause-size g c = size_again (ahead_size g.I.Iterator.remaining c.args.self.now.inner) (ahead_size g.I.Iterator.remaining c.next.new.self) _ c.in-Some-Ok.ensures.lowers c.put_back-then-not-is_below_threshold.ensures.size

pub returns-clause-may : goal.returns-clause-may
returns-clause-may g c = c.drain_hidden-goes.ensures.may

pub returns-clause-rules : goal.returns-clause-rules
returns-clause-rules g c = c.drain_hidden-goes.ensures.rules

pub returns-clause-filter : goal.returns-clause-filter
returns-clause-filter g c = c.drain_hidden-goes.ensures.filter

pub returns-clause-size : goal.returns-clause-size
returns-clause-size g c = size_less (ahead_size g.I.Iterator.remaining c.args.self.now.inner) (ahead_size g.I.Iterator.remaining c.next.new.self) _ c.in-Some-Ok.ensures.lowers c.drain_hidden-goes.ensures.size

pub returns-in-Some-Err-clause-hears : goal.returns-in-Some-Err-clause-hears
returns-in-Some-Err-clause-hears g c = hears_settled_err g.I.Iterator.next_gives g.C.DroppedKvCallback.gets _ c.args.head.now _ _ _ c.in-Some-Err.error (rw c.in-Some-Err.field-0-is at c.in-Some-Err.ensures.hears)

pub returns-in-None-clause-hears : goal.returns-in-None-clause-hears
returns-in-None-clause-hears g c = hears_settled_end g.I.Iterator.next_gives g.C.DroppedKvCallback.gets _ c.args.head.now _ _ _ _ c.in-None.ensures.hears c.goes_alone.ensures

pub returns-then-not-has_key_of-clause-hears : goal.returns-then-not-has_key_of-clause-hears
returns-then-not-has_key_of-clause-hears g c =
    hears_settled_other g.I.Iterator.next_gives g.C.DroppedKvCallback.gets _ c.args.head.now _ c.next.new.self _ _ c.in-Some-Ok.next (rw c.in-Some-Ok.field-0-is at c.in-Some-Ok.ensures.hears) _ (sym c.has_key_of.ensures ∙ c.if-not-has_key_of.true) c.put_back.ensures.puts c.goes_alone-then-not-has_key_of.ensures

pub returns-then-not-is_below_threshold-clause-hears : goal.returns-then-not-is_below_threshold-clause-hears
returns-then-not-is_below_threshold-clause-hears g c =
    hears_settled_open g.I.Iterator.next_gives g.C.DroppedKvCallback.gets _ c.args.head.now _ c.next.new.self _ _ c.in-Some-Ok.next (rw c.in-Some-Ok.field-0-is at c.in-Some-Ok.ensures.hears) (sym c.has_key_of.ensures ∙ c.if-not-has_key_of.false) (sym c.is_below_threshold.ensures ∙ c.if-not-is_below_threshold.true) c.put_back-then-not-is_below_threshold.ensures.puts

pub returns-clause-hears : goal.returns-clause-hears
returns-clause-hears g c =
    let drains = c.drain_hidden-goes.ensures.hears in
    hears_settled_closed g.I.Iterator.next_gives g.C.DroppedKvCallback.gets _ c.args.head.now c.args.self.now.inner c.next.new.self _ c.args.self.now.dropped_callback c.in-Some-Ok.next (rw c.in-Some-Ok.field-0-is at c.in-Some-Ok.ensures.hears) drains.0 _ c.drain_hidden-goes.result (sym c.has_key_of.ensures ∙ c.if-not-has_key_of.false) (sym c.is_below_threshold.ensures ∙ c.if-not-is_below_threshold.false) drains.1 drains.2 c.drain_hidden-goes.ensures.goes

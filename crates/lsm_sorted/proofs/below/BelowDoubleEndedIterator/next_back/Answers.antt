use Rattle.std.proofs.Common.{◌≡◌, sym, ◌∙◌, refl, subst, ℕ, true, false, arith}
use Rattle.std.specs.Prelude.{nat_lt, Ok}
use Rattle.sst_entries.proofs.StreamLemmas.{can_now_back}
use Rattle.lsm_sorted.proofs.BelowLemmas.{may_after_back, more_gone}
use Rattle.lsm_sorted.proofs.below.BelowDoubleEndedIterator.next_back.Goals as goal

pub next_back-requires : goal.next_back-requires
next_back-requires g c = can_now_back g.I.Iterator.next_gives g.I.DoubleEndedIterator.next_back_gives g.I.Iterator.can_next g.I.DoubleEndedIterator.can_next_back c.loop-entry.self.iter c.loop-entry.invariant.may.asks

pub returns-then-is_below-clause-steps : goal.returns-then-is_below-clause-steps
returns-then-is_below-clause-steps g c = record {
  may = may_after_back g.I.Iterator.next_gives g.I.DoubleEndedIterator.next_back_gives g.I.Iterator.can_next g.I.DoubleEndedIterator.can_next_back g.I.Iterator.remaining c.loop-entry.self (record { iter = c.next_back.new.self; seqno = c.loop-entry.self.seqno }) _ c.loop-entry.invariant.may c.in-Some-Ok.ensures.steps c.in-Some-Ok.ensures.goes;
  same = c.loop-entry.invariant.same;
  led = c.loop-entry.self.iter;
  before = c.loop-entry.invariant.before;
  gives = rw c.in-Some-Ok.field-0-is at c.in-Some-Ok.ensures.steps;
  low = subst (λ (n : ℕ). nat_lt c.in-Some-Ok.entry.seqno n ≡ true) c.loop-entry.invariant.same (sym c.is_below.ensures ∙ c.if-is_below.true);
}

pub returns-then-is_below-clause-goes : goal.returns-then-is_below-clause-goes
returns-then-is_below-clause-goes g c =
    let may = may_after_back g.I.Iterator.next_gives g.I.DoubleEndedIterator.next_back_gives g.I.Iterator.can_next g.I.DoubleEndedIterator.can_next_back g.I.Iterator.remaining c.loop-entry.self (record { iter = c.next_back.new.self; seqno = c.loop-entry.self.seqno }) _ c.loop-entry.invariant.may c.in-Some-Ok.ensures.steps c.in-Some-Ok.ensures.goes in
    let less = (c.in-Some-Ok.ensures.goes.on c.loop-entry.invariant.may.ends).2 in
    record {
      on = λ _. (may, may.ends, omega (arith, less, c.loop-entry.invariant.fewer));
      keeps = may;
      rests = λ _. tt;
    }

pub loop-entry-preserved : goal.loop-entry-preserved
loop-entry-preserved g c = record {
  may = may_after_back g.I.Iterator.next_gives g.I.DoubleEndedIterator.next_back_gives g.I.Iterator.can_next g.I.DoubleEndedIterator.can_next_back g.I.Iterator.remaining c.loop-entry.self (record { iter = c.next_back.new.self; seqno = c.loop-entry.self.seqno }) _ c.loop-entry.invariant.may c.in-Some-Ok.ensures.steps c.in-Some-Ok.ensures.goes;
  same = c.loop-entry.invariant.same;
  before = more_gone _ g.I.DoubleEndedIterator.next_back_gives _ c.loop-entry.self.iter _ (Ok c.in-Some-Ok.entry) c.loop-entry.invariant.before (rw c.in-Some-Ok.field-0-is at c.in-Some-Ok.ensures.steps) (subst (λ (n : ℕ). nat_lt c.in-Some-Ok.entry.seqno n ≡ false) c.loop-entry.invariant.same (sym c.is_below.ensures ∙ c.if-is_below.false));
  fewer = omega (arith, (c.in-Some-Ok.ensures.goes.on c.loop-entry.invariant.may.ends).2, c.loop-entry.invariant.fewer);
}

pub returns-in-Some-Err-clause-steps : goal.returns-in-Some-Err-clause-steps
returns-in-Some-Err-clause-steps g c = record {
  may = may_after_back g.I.Iterator.next_gives g.I.DoubleEndedIterator.next_back_gives g.I.Iterator.can_next g.I.DoubleEndedIterator.can_next_back g.I.Iterator.remaining c.loop-entry.self (record { iter = c.next_back.new.self; seqno = c.loop-entry.self.seqno }) _ c.loop-entry.invariant.may c.in-Some-Err.ensures.steps c.in-Some-Err.ensures.goes;
  same = c.loop-entry.invariant.same;
  led = c.loop-entry.self.iter;
  before = c.loop-entry.invariant.before;
  gives = rw c.in-Some-Err.field-0-is at c.in-Some-Err.ensures.steps;
  low = refl;
}

pub returns-in-Some-Err-clause-goes : goal.returns-in-Some-Err-clause-goes
returns-in-Some-Err-clause-goes g c =
    let may = may_after_back g.I.Iterator.next_gives g.I.DoubleEndedIterator.next_back_gives g.I.Iterator.can_next g.I.DoubleEndedIterator.can_next_back g.I.Iterator.remaining c.loop-entry.self (record { iter = c.next_back.new.self; seqno = c.loop-entry.self.seqno }) _ c.loop-entry.invariant.may c.in-Some-Err.ensures.steps c.in-Some-Err.ensures.goes in
    let less = (c.in-Some-Err.ensures.goes.on c.loop-entry.invariant.may.ends).2 in
    record {
      on = λ _. (may, may.ends, omega (arith, less, c.loop-entry.invariant.fewer));
      keeps = may;
      rests = λ _. tt;
    }

pub returns-in-None-clause-steps : goal.returns-in-None-clause-steps
returns-in-None-clause-steps g c = record {
  may = may_after_back g.I.Iterator.next_gives g.I.DoubleEndedIterator.next_back_gives g.I.Iterator.can_next g.I.DoubleEndedIterator.can_next_back g.I.Iterator.remaining c.loop-entry.self (record { iter = c.next_back.new.self; seqno = c.loop-entry.self.seqno }) _ c.loop-entry.invariant.may c.in-None.ensures.steps c.in-None.ensures.goes;
  same = c.loop-entry.invariant.same;
  led = c.loop-entry.self.iter;
  before = c.loop-entry.invariant.before;
  gives = c.in-None.ensures.steps;
  low = tt;
}

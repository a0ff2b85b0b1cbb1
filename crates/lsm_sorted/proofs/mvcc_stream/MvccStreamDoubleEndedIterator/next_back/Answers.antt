use Rattle.std.proofs.Common.{arith, sym, ◌∙◌}
use Rattle.lsm_sorted.proofs.MvccHears.{hears_tail, hears_newer, hears_lower, hears_error_before, hears_first, hears_error_last, hears_none_back}
use Rattle.lsm_sorted.proofs.mvcc_stream.MvccStreamDoubleEndedIterator.next_back.Goals as goal

pub returns-in-Some-Err-clause-steps : goal.returns-in-Some-Err-clause-steps
returns-in-Some-Err-clause-steps g c = record {
  may = c.in-Some-Err.ensures.goes;
  hears = hears_error_last g.I.DoubleEndedIterator.next_back_gives _ _ c.in-Some-Err.error (rw c.in-Some-Err.field-0-is at c.in-Some-Err.ensures.hears);
}

pub returns-in-None-clause-steps : goal.returns-in-None-clause-steps
returns-in-None-clause-steps g c = record {
  may = c.in-None.ensures.goes;
  hears = hears_none_back g.I.DoubleEndedIterator.next_back_gives _ _ c.in-None.ensures.hears;
}

pub loop-before-init : goal.loop-before-init
loop-before-init g c = record {
  may = c.in-Some-Ok.ensures.goes;
  hears = hears_tail g.I.DoubleEndedIterator.next_back_gives _ _ c.in-Some-Ok.tail (rw c.in-Some-Ok.field-0-is at c.in-Some-Ok.ensures.hears);
  fewer = c.in-Some-Ok.ensures.lowers;
}

pub returns-then-has_lower_key-clause-steps : goal.returns-then-has_lower_key-clause-steps
returns-then-has_lower_key-clause-steps g c = record {
  may = rw c.put_back.ensures.source c.in-Some-Ok-next_back.ensures.goes;
  hears = hears_lower g.I.DoubleEndedIterator.next_back_gives _ _ _ c.loop-before.tail c.loop-before.invariant.hears _ c.in-Some-Ok-next_back.before (rw c.in-Some-Ok-next_back.field-0-is at c.in-Some-Ok-next_back.ensures.hears) (sym c.has_lower_key.ensures ∙ c.if-has_lower_key.true) c.put_back.ensures.puts;
}

pub loop-before-preserved : goal.loop-before-preserved
loop-before-preserved g c = record {
  may = c.in-Some-Ok-next_back.ensures.goes;
  hears = hears_newer g.I.DoubleEndedIterator.next_back_gives _ _ _ c.loop-before.tail c.loop-before.invariant.hears c.in-Some-Ok-next_back.before (rw c.in-Some-Ok-next_back.field-0-is at c.in-Some-Ok-next_back.ensures.hears) (sym c.has_lower_key.ensures ∙ c.if-has_lower_key.false);
  fewer = omega (arith, c.in-Some-Ok-next_back.ensures.lowers, c.loop-before.invariant.fewer);
}

pub returns-in-Some-Err-next_back-clause-steps : goal.returns-in-Some-Err-next_back-clause-steps
returns-in-Some-Err-next_back-clause-steps g c = record {
  may = c.in-Some-Err-next_back.ensures.goes;
  hears = hears_error_before g.I.DoubleEndedIterator.next_back_gives _ _ _ c.loop-before.tail c.loop-before.invariant.hears c.in-Some-Err-next_back.error (rw c.in-Some-Err-next_back.field-0-is at c.in-Some-Err-next_back.ensures.hears);
}

pub returns-in-None-next_back-clause-steps : goal.returns-in-None-next_back-clause-steps
returns-in-None-next_back-clause-steps g c = record {
  may = c.in-None-next_back.ensures.goes;
  hears = hears_first g.I.DoubleEndedIterator.next_back_gives _ _ _ c.loop-before.tail c.loop-before.invariant.hears c.in-None-next_back.ensures.hears;
}

pub returns-in-Some-Err-clause-goes : goal.returns-in-Some-Err-clause-goes
returns-in-Some-Err-clause-goes g c = record {
  on = λ _. (c.in-Some-Err.ensures.goes, tt, c.in-Some-Err.ensures.lowers);
  keeps = c.in-Some-Err.ensures.goes;
  rests = λ _. tt;
}

pub returns-in-None-clause-goes : goal.returns-in-None-clause-goes
returns-in-None-clause-goes g c = record { on = λ _. tt; keeps = tt; rests = λ _. tt }

pub returns-then-has_lower_key-clause-goes : goal.returns-then-has_lower_key-clause-goes
returns-then-has_lower_key-clause-goes g c = record {
  on = λ _. (rw c.put_back.ensures.source c.in-Some-Ok-next_back.ensures.goes, tt, omega (arith, c.put_back.ensures.size, c.in-Some-Ok-next_back.ensures.lowers, c.loop-before.invariant.fewer));
  keeps = rw c.put_back.ensures.source c.in-Some-Ok-next_back.ensures.goes;
  rests = λ _. tt;
}

pub returns-in-Some-Err-next_back-clause-goes : goal.returns-in-Some-Err-next_back-clause-goes
returns-in-Some-Err-next_back-clause-goes g c = record {
  on = λ _. (c.in-Some-Err-next_back.ensures.goes, tt, omega (arith, c.in-Some-Err-next_back.ensures.lowers, c.loop-before.invariant.fewer));
  keeps = c.in-Some-Err-next_back.ensures.goes;
  rests = λ _. tt;
}

pub returns-in-None-next_back-clause-goes : goal.returns-in-None-next_back-clause-goes
returns-in-None-next_back-clause-goes g c = record {
  on = λ _. (c.in-None-next_back.ensures.goes, tt, omega (arith, c.in-None-next_back.ensures.lowers, c.loop-before.invariant.fewer));
  keeps = c.in-None-next_back.ensures.goes;
  rests = λ _. tt;
}

use Rattle.std.proofs.Common.{arith}
use Rattle.lsm_sorted.proofs.MvccHears.{hears_head, hears_version, hears_other, hears_error, hears_last, hears_error_first, hears_none}
use Rattle.sst_entries.proofs.KeyLemmas.{keys_apart, keys_same}
use Rattle.lsm_sorted.proofs.mvcc_stream.MvccStreamIterator.next.Goals as goal

pub returns-in-Some-Err-clause-steps : goal.returns-in-Some-Err-clause-steps
returns-in-Some-Err-clause-steps g c = record {
  may = c.in-Some-Err.ensures.goes;
  hears = hears_error_first g.I.Iterator.next_gives _ _ c.in-Some-Err.error (rw c.in-Some-Err.field-0-is at c.in-Some-Err.ensures.hears);
}

pub returns-in-None-clause-steps : goal.returns-in-None-clause-steps
returns-in-None-clause-steps g c = record {
  may = c.in-None.ensures.goes;
  hears = hears_none g.I.Iterator.next_gives _ _ c.in-None.ensures.hears;
}

pub loop-other-init : goal.loop-other-init
loop-other-init g c = record {
  may = c.in-Some-Ok.ensures.goes;
  hears = hears_head g.I.Iterator.next_gives _ _ c.in-Some-Ok.head (rw c.in-Some-Ok.field-0-is at c.in-Some-Ok.ensures.hears);
  fewer = c.in-Some-Ok.ensures.lowers;
}

pub returns-then-has_other_key-clause-steps : goal.returns-then-has_other_key-clause-steps
returns-then-has_other_key-clause-steps g c = record {
  may = rw c.put_front.ensures.source c.in-Some-Ok-next.ensures.goes;
  hears = hears_other g.I.Iterator.next_gives _ _ _ c.in-Some-Ok.head c.loop-other.invariant.hears _ c.in-Some-Ok-next.other (rw c.in-Some-Ok-next.field-0-is at c.in-Some-Ok-next.ensures.hears) (keys_apart c.in-Some-Ok-next.other.user_key c.in-Some-Ok.head.user_key _ c.has_other_key.ensures c.if-has_other_key.true) c.put_front.ensures.puts;
}

pub loop-other-preserved : goal.loop-other-preserved
loop-other-preserved g c = record {
  may = c.in-Some-Ok-next.ensures.goes;
  hears = hears_version g.I.Iterator.next_gives _ _ _ c.in-Some-Ok.head c.loop-other.invariant.hears c.in-Some-Ok-next.other (rw c.in-Some-Ok-next.field-0-is at c.in-Some-Ok-next.ensures.hears) (keys_same c.in-Some-Ok-next.other.user_key c.in-Some-Ok.head.user_key _ c.has_other_key.ensures c.if-has_other_key.false);
  fewer = omega (arith, c.in-Some-Ok-next.ensures.lowers, c.loop-other.invariant.fewer);
}

pub returns-in-Some-Err-next-clause-steps : goal.returns-in-Some-Err-next-clause-steps
returns-in-Some-Err-next-clause-steps g c = record {
  may = c.in-Some-Err-next.ensures.goes;
  hears = hears_error g.I.Iterator.next_gives _ _ _ c.in-Some-Ok.head c.loop-other.invariant.hears c.in-Some-Err-next.error (rw c.in-Some-Err-next.field-0-is at c.in-Some-Err-next.ensures.hears);
}

pub returns-in-None-next-clause-steps : goal.returns-in-None-next-clause-steps
returns-in-None-next-clause-steps g c = record {
  may = c.in-None-next.ensures.goes;
  hears = hears_last g.I.Iterator.next_gives _ _ _ c.in-Some-Ok.head c.loop-other.invariant.hears c.in-None-next.ensures.hears;
}

pub returns-in-Some-Err-clause-goes : goal.returns-in-Some-Err-clause-goes
returns-in-Some-Err-clause-goes g c = record {
  on = λ _. (c.in-Some-Err.ensures.goes, tt, c.in-Some-Err.ensures.lowers);
  keeps = c.in-Some-Err.ensures.goes;
  rests = λ _. tt;
}

pub returns-in-None-clause-goes : goal.returns-in-None-clause-goes
returns-in-None-clause-goes g c = record { on = λ _. tt; keeps = tt; rests = λ _. tt }

pub returns-then-has_other_key-clause-goes : goal.returns-then-has_other_key-clause-goes
returns-then-has_other_key-clause-goes g c = record {
  on = λ _. (rw c.put_front.ensures.source c.in-Some-Ok-next.ensures.goes, tt, omega (arith, c.put_front.ensures.size, c.in-Some-Ok-next.ensures.lowers, c.loop-other.invariant.fewer));
  keeps = rw c.put_front.ensures.source c.in-Some-Ok-next.ensures.goes;
  rests = λ _. tt;
}

pub returns-in-Some-Err-next-clause-goes : goal.returns-in-Some-Err-next-clause-goes
returns-in-Some-Err-next-clause-goes g c = record {
  on = λ _. (c.in-Some-Err-next.ensures.goes, tt, omega (arith, c.in-Some-Err-next.ensures.lowers, c.loop-other.invariant.fewer));
  keeps = c.in-Some-Err-next.ensures.goes;
  rests = λ _. tt;
}

pub returns-in-None-next-clause-goes : goal.returns-in-None-next-clause-goes
returns-in-None-next-clause-goes g c = record {
  on = λ _. (c.in-None-next.ensures.goes, tt, omega (arith, c.in-None-next.ensures.lowers, c.loop-other.invariant.fewer));
  keeps = c.in-None-next.ensures.goes;
  rests = λ _. tt;
}

use Rattle.std.proofs.Common.{◌≡◌, refl, sym, ◌∙◌, ap, true, false, arith}
use Rattle.std.specs.Prelude.{Some, Ok, Err}
use Rattle.sst_entries.specs.Entry.{Entry}
use Rattle.lsm_sorted.specs.Ahead.{HoldsAhead}
use Rattle.lsm_sorted.specs.declared.compaction.Rules.{Rules}
use Rattle.lsm_sorted.specs.Compaction.{zeroed}
use Rattle.lsm_sorted.specs.CompactionState.{rules_of}
use Rattle.lsm_sorted.proofs.GoingLemmas.{settles_along, going_along, called_along, going_first}
use Rattle.lsm_sorted.proofs.GoingLemmas.{going_dropped, called_filter_err, going_on, called_kept}
use Rattle.lsm_sorted.proofs.GoingLemmas.{called_err, called_source_err, called_none}
use Rattle.lsm_sorted.proofs.CompactionHears.{hears_start, hears_source_err, hears_none}
use Rattle.lsm_sorted.proofs.CompactionHears.{hears_dropped, hears_filter_err, hears_on, hears_kept}
use Rattle.lsm_sorted.proofs.CompactionHears.{hears_settle_err}
use Rattle.lsm_sorted.proofs.compaction.stream.CompactionStreamIterator.next.Goals as goal

pub loop-head-init : goal.loop-head-init
loop-head-init g c = record {
  may = c.requires;
  rules = refl;
  size = omega arith;
  hears = hears_start g.I.Iterator.next_gives g.F.StreamFilter.gives g.C.DroppedKvCallback.gets (rules_of c.args.self.now) c.args.self.now.inner c.args.self.now.filter c.args.self.now.dropped_callback;
  going = λ stops. going_first stops (HoldsAhead stops g.I.Iterator.next_gives) g.F.StreamFilter.gives g.C.DroppedKvCallback.gets (rules_of c.args.self.now) c.args.self.now.inner c.args.self.now.filter c.args.self.now.dropped_callback;
}

pub returns-in-Some-Err-clause-steps : goal.returns-in-Some-Err-clause-steps
returns-in-Some-Err-clause-steps g c = record {
  may = c.in-Some-Err.ensures.goes;
  rules = c.loop-head.invariant.rules;
  hears = hears_source_err g.I.Iterator.next_gives g.F.StreamFilter.gives g.C.DroppedKvCallback.gets (rules_of c.args.self.now) c.args.self.now.inner c.loop-head.self.inner c.next.new.self c.args.self.now.filter c.loop-head.self.filter c.args.self.now.dropped_callback c.loop-head.self.dropped_callback c.loop-head.invariant.hears c.in-Some-Err.error (rw c.in-Some-Err.field-0-is at c.in-Some-Err.ensures.hears);
  calls = λ stops. called_source_err stops (HoldsAhead stops g.I.Iterator.next_gives) g.F.StreamFilter.gives g.C.DroppedKvCallback.gets (rules_of c.args.self.now) c.args.self.now.inner c.loop-head.self.inner c.next.new.self c.args.self.now.filter c.loop-head.self.filter c.args.self.now.dropped_callback c.loop-head.self.dropped_callback (c.loop-head.invariant.going stops) c.in-Some-Err.error (rw c.in-Some-Err.field-0-is at (c.in-Some-Err.ensures.yields stops));
}

pub returns-in-None-clause-steps : goal.returns-in-None-clause-steps
returns-in-None-clause-steps g c = record {
  may = c.in-None.ensures.goes;
  rules = c.loop-head.invariant.rules;
  hears = hears_none g.I.Iterator.next_gives g.F.StreamFilter.gives g.C.DroppedKvCallback.gets (rules_of c.args.self.now) c.args.self.now.inner c.loop-head.self.inner c.next.new.self c.args.self.now.filter c.loop-head.self.filter c.args.self.now.dropped_callback c.loop-head.self.dropped_callback c.loop-head.invariant.hears c.in-None.ensures.hears;
  calls = λ stops. called_none stops (HoldsAhead stops g.I.Iterator.next_gives) g.F.StreamFilter.gives g.C.DroppedKvCallback.gets (rules_of c.args.self.now) c.args.self.now.inner c.loop-head.self.inner c.next.new.self c.args.self.now.filter c.loop-head.self.filter c.args.self.now.dropped_callback c.loop-head.self.dropped_callback (c.loop-head.invariant.going stops) (c.in-None.ensures.yields stops);
}

pub loop-head-preserved-in-Ok-None : goal.loop-head-preserved-in-Ok-None
loop-head-preserved-in-Ok-None g c = record {
  may = rw c.filtered.ensures.source c.in-Some-Ok.ensures.goes;
  rules = c.filtered.ensures.rules ∙ c.loop-head.invariant.rules;
  size = rw c.filtered.ensures.source (omega (arith, c.in-Some-Ok.ensures.lowers, c.loop-head.invariant.size));
  hears = rw c.filtered.ensures.source (hears_dropped g.I.Iterator.next_gives g.F.StreamFilter.gives g.C.DroppedKvCallback.gets (rules_of c.args.self.now) c.args.self.now.inner c.loop-head.self.inner c.next.new.self c.args.self.now.filter c.loop-head.self.filter c.args.self.now.dropped_callback c.loop-head.self.dropped_callback c.loop-head.invariant.hears c.filtered.new.self.filter c.filtered.new.self.dropped_callback c.in-Some-Ok.head (rw c.in-Some-Ok.field-0-is at c.in-Some-Ok.ensures.hears) (rw c.in-Ok-None.field-0-is at c.in-Ok-None.ensures.filters));
  going = λ stops. rw c.filtered.ensures.source (going_dropped stops (HoldsAhead stops g.I.Iterator.next_gives) g.F.StreamFilter.gives g.C.DroppedKvCallback.gets (rules_of c.args.self.now) c.args.self.now.inner c.loop-head.self.inner c.next.new.self c.args.self.now.filter c.loop-head.self.filter c.filtered.new.self.filter c.args.self.now.dropped_callback c.loop-head.self.dropped_callback c.filtered.new.self.dropped_callback c.in-Some-Ok.head (c.loop-head.invariant.going stops) (rw c.in-Some-Ok.field-0-is at (c.in-Some-Ok.ensures.yields stops)) (rw c.in-Ok-None.field-0-is at c.in-Ok-None.ensures.filters));
}

pub returns-in-Err-clause-steps : goal.returns-in-Err-clause-steps
returns-in-Err-clause-steps g c = record {
  may = rw c.filtered.ensures.source c.in-Some-Ok.ensures.goes;
  rules = c.filtered.ensures.rules ∙ c.loop-head.invariant.rules;
  hears = rw c.filtered.ensures.source (hears_filter_err g.I.Iterator.next_gives g.F.StreamFilter.gives g.C.DroppedKvCallback.gets (rules_of c.args.self.now) c.args.self.now.inner c.loop-head.self.inner c.next.new.self c.args.self.now.filter c.loop-head.self.filter c.args.self.now.dropped_callback c.loop-head.self.dropped_callback c.loop-head.invariant.hears c.filtered.new.self.filter c.filtered.new.self.dropped_callback c.in-Some-Ok.head (rw c.in-Some-Ok.field-0-is at c.in-Some-Ok.ensures.hears) c.in-Err.error c.in-Err.ensures.filters);
  calls = λ stops. rw c.filtered.ensures.source (called_filter_err stops (HoldsAhead stops g.I.Iterator.next_gives) g.F.StreamFilter.gives g.C.DroppedKvCallback.gets (rules_of c.args.self.now) c.args.self.now.inner c.loop-head.self.inner c.next.new.self c.args.self.now.filter c.loop-head.self.filter c.filtered.new.self.filter c.args.self.now.dropped_callback c.loop-head.self.dropped_callback c.filtered.new.self.dropped_callback c.in-Some-Ok.head (c.loop-head.invariant.going stops) (rw c.in-Some-Ok.field-0-is at (c.in-Some-Ok.ensures.yields stops)) c.in-Err.error c.in-Err.ensures.filters);
}

pub returns-in-Ok-false-clause-steps : goal.returns-in-Ok-false-clause-steps
returns-in-Ok-false-clause-steps g c =
    let rules : rules_of c.lets_go.new.self ≡ rules_of c.args.self.now = c.lets_go.ensures.rules ∙ c.filtered.ensures.rules ∙ c.loop-head.invariant.rules in
    record {
      may = c.lets_go.ensures.may;
      rules = rules;
      hears = rw c.lets_go.ensures.filter (hears_kept g.I.Iterator.next_gives g.F.StreamFilter.gives g.C.DroppedKvCallback.gets (rules_of c.args.self.now) c.args.self.now.inner c.loop-head.self.inner c.next.new.self c.args.self.now.filter c.loop-head.self.filter c.args.self.now.dropped_callback c.loop-head.self.dropped_callback c.loop-head.invariant.hears c.filtered.new.self.filter c.filtered.new.self.dropped_callback c.in-Some-Ok.head (rw c.in-Some-Ok.field-0-is at c.in-Some-Ok.ensures.hears) c.in-Ok-Some.head (rw c.in-Ok-Some.field-0-is at c.in-Ok-Some.ensures.filters) (rules_of c.filtered.new.self) c.filtered.new.self.inner c.lets_go.new.self.inner c.lets_go.new.self.dropped_callback c.filtered.ensures.source (c.filtered.ensures.rules ∙ c.loop-head.invariant.rules) c.zeroed.result (c.zeroed.ensures ∙ ap (λ (o : Rules). zeroed o c.in-Ok-Some.head) rules) (rw c.in-Ok-false.field-0-test at c.in-Ok-false.ensures.hears));
      calls = λ stops. called_along stops (HoldsAhead stops g.I.Iterator.next_gives) g.F.StreamFilter.gives g.C.DroppedKvCallback.gets (rules_of c.args.self.now) c.args.self.now.inner c.lets_go.new.self.inner c.args.self.now.filter c.filtered.new.self.filter c.lets_go.new.self.filter c.args.self.now.dropped_callback c.lets_go.new.self.dropped_callback (Some (Ok (zeroed (rules_of c.args.self.now) c.in-Ok-Some.head))) (Some (Ok c.zeroed.result))
          (sym (ap (λ (x : Entry). Some (Ok x)) (c.zeroed.ensures ∙ ap (λ (o : Rules). zeroed o c.in-Ok-Some.head) rules))) (sym c.lets_go.ensures.filter)
          (called_kept stops (HoldsAhead stops g.I.Iterator.next_gives) g.F.StreamFilter.gives g.C.DroppedKvCallback.gets (rules_of c.args.self.now) c.args.self.now.inner c.loop-head.self.inner c.next.new.self c.args.self.now.filter c.loop-head.self.filter c.filtered.new.self.filter c.args.self.now.dropped_callback c.loop-head.self.dropped_callback c.filtered.new.self.dropped_callback c.in-Some-Ok.head (c.loop-head.invariant.going stops) (rw c.in-Some-Ok.field-0-is at (c.in-Some-Ok.ensures.yields stops)) c.in-Ok-Some.head (rw c.in-Ok-Some.field-0-is at c.in-Ok-Some.ensures.filters) c.lets_go.new.self.inner c.lets_go.new.self.dropped_callback (settles_along stops (HoldsAhead stops g.I.Iterator.next_gives) g.F.StreamFilter.gives g.C.DroppedKvCallback.gets (rules_of c.args.self.now) (rules_of c.filtered.new.self) (rules_of c.args.self.now) c.in-Ok-Some.head c.filtered.new.self.inner c.next.new.self c.lets_go.new.self.inner c.filtered.new.self.dropped_callback c.lets_go.new.self.dropped_callback (Ok false) (c.filtered.ensures.rules ∙ c.loop-head.invariant.rules) c.filtered.ensures.source (rw c.in-Ok-false.field-0-test at (c.in-Ok-false.ensures.settles stops))));
    }

pub returns-in-Err-lets_go-clause-steps : goal.returns-in-Err-lets_go-clause-steps
returns-in-Err-lets_go-clause-steps g c = record {
  may = c.lets_go.ensures.may;
  rules = c.lets_go.ensures.rules ∙ c.filtered.ensures.rules ∙ c.loop-head.invariant.rules;
  hears = rw c.lets_go.ensures.filter (hears_settle_err g.I.Iterator.next_gives g.F.StreamFilter.gives g.C.DroppedKvCallback.gets (rules_of c.args.self.now) c.args.self.now.inner c.loop-head.self.inner c.next.new.self c.args.self.now.filter c.loop-head.self.filter c.args.self.now.dropped_callback c.loop-head.self.dropped_callback c.loop-head.invariant.hears c.filtered.new.self.filter c.filtered.new.self.dropped_callback c.in-Some-Ok.head (rw c.in-Some-Ok.field-0-is at c.in-Some-Ok.ensures.hears) c.in-Ok-Some.head (rw c.in-Ok-Some.field-0-is at c.in-Ok-Some.ensures.filters) (rules_of c.filtered.new.self) c.filtered.new.self.inner c.lets_go.new.self.inner c.lets_go.new.self.dropped_callback c.filtered.ensures.source (c.filtered.ensures.rules ∙ c.loop-head.invariant.rules) c.in-Err-lets_go.error c.in-Err-lets_go.ensures.hears);
  calls = λ stops. called_along stops (HoldsAhead stops g.I.Iterator.next_gives) g.F.StreamFilter.gives g.C.DroppedKvCallback.gets (rules_of c.args.self.now) c.args.self.now.inner c.lets_go.new.self.inner c.args.self.now.filter c.filtered.new.self.filter c.lets_go.new.self.filter c.args.self.now.dropped_callback c.lets_go.new.self.dropped_callback (Some (Err c.in-Err-lets_go.error)) (Some (Err c.in-Err-lets_go.error)) refl (sym c.lets_go.ensures.filter)
      (called_err stops (HoldsAhead stops g.I.Iterator.next_gives) g.F.StreamFilter.gives g.C.DroppedKvCallback.gets (rules_of c.args.self.now) c.args.self.now.inner c.loop-head.self.inner c.next.new.self c.args.self.now.filter c.loop-head.self.filter c.filtered.new.self.filter c.args.self.now.dropped_callback c.loop-head.self.dropped_callback c.filtered.new.self.dropped_callback c.in-Some-Ok.head (c.loop-head.invariant.going stops) (rw c.in-Some-Ok.field-0-is at (c.in-Some-Ok.ensures.yields stops)) c.in-Ok-Some.head (rw c.in-Ok-Some.field-0-is at c.in-Ok-Some.ensures.filters) c.lets_go.new.self.inner c.lets_go.new.self.dropped_callback c.in-Err-lets_go.error (settles_along stops (HoldsAhead stops g.I.Iterator.next_gives) g.F.StreamFilter.gives g.C.DroppedKvCallback.gets (rules_of c.args.self.now) (rules_of c.filtered.new.self) (rules_of c.args.self.now) c.in-Ok-Some.head c.filtered.new.self.inner c.next.new.self c.lets_go.new.self.inner c.filtered.new.self.dropped_callback c.lets_go.new.self.dropped_callback (Err c.in-Err-lets_go.error) (c.filtered.ensures.rules ∙ c.loop-head.invariant.rules) c.filtered.ensures.source (c.in-Err-lets_go.ensures.settles stops)));
}

pub loop-head-preserved : goal.loop-head-preserved
loop-head-preserved g c = record {
  may = c.lets_go.ensures.may;
  rules = c.lets_go.ensures.rules ∙ c.filtered.ensures.rules ∙ c.loop-head.invariant.rules;
  size = omega (arith, c.lets_go.ensures.size, rw c.filtered.ensures.source at c.lets_go.ensures.size, c.in-Some-Ok.ensures.lowers, c.loop-head.invariant.size);
  hears = rw c.lets_go.ensures.filter (hears_on g.I.Iterator.next_gives g.F.StreamFilter.gives g.C.DroppedKvCallback.gets (rules_of c.args.self.now) c.args.self.now.inner c.loop-head.self.inner c.next.new.self c.args.self.now.filter c.loop-head.self.filter c.args.self.now.dropped_callback c.loop-head.self.dropped_callback c.loop-head.invariant.hears c.filtered.new.self.filter c.filtered.new.self.dropped_callback c.in-Some-Ok.head (rw c.in-Some-Ok.field-0-is at c.in-Some-Ok.ensures.hears) c.in-Ok-Some.head (rw c.in-Ok-Some.field-0-is at c.in-Ok-Some.ensures.filters) (rules_of c.filtered.new.self) c.filtered.new.self.inner c.lets_go.new.self.inner c.lets_go.new.self.dropped_callback c.filtered.ensures.source (c.filtered.ensures.rules ∙ c.loop-head.invariant.rules) (rw c.in-Ok-true.field-0-test at c.in-Ok-true.ensures.hears));
  going = λ stops. going_along stops (HoldsAhead stops g.I.Iterator.next_gives) g.F.StreamFilter.gives g.C.DroppedKvCallback.gets (rules_of c.args.self.now) c.args.self.now.inner c.lets_go.new.self.inner c.args.self.now.filter c.filtered.new.self.filter c.lets_go.new.self.filter c.args.self.now.dropped_callback c.lets_go.new.self.dropped_callback (sym c.lets_go.ensures.filter)
      (going_on stops (HoldsAhead stops g.I.Iterator.next_gives) g.F.StreamFilter.gives g.C.DroppedKvCallback.gets (rules_of c.args.self.now) c.args.self.now.inner c.loop-head.self.inner c.next.new.self c.args.self.now.filter c.loop-head.self.filter c.filtered.new.self.filter c.args.self.now.dropped_callback c.loop-head.self.dropped_callback c.filtered.new.self.dropped_callback c.in-Some-Ok.head (c.loop-head.invariant.going stops) (rw c.in-Some-Ok.field-0-is at (c.in-Some-Ok.ensures.yields stops)) c.in-Ok-Some.head (rw c.in-Ok-Some.field-0-is at c.in-Ok-Some.ensures.filters) c.lets_go.new.self.inner c.lets_go.new.self.dropped_callback (settles_along stops (HoldsAhead stops g.I.Iterator.next_gives) g.F.StreamFilter.gives g.C.DroppedKvCallback.gets (rules_of c.args.self.now) (rules_of c.filtered.new.self) (rules_of c.args.self.now) c.in-Ok-Some.head c.filtered.new.self.inner c.next.new.self c.lets_go.new.self.inner c.filtered.new.self.dropped_callback c.lets_go.new.self.dropped_callback (Ok true) (c.filtered.ensures.rules ∙ c.loop-head.invariant.rules) c.filtered.ensures.source (rw c.in-Ok-true.field-0-test at (c.in-Ok-true.ensures.settles stops))));
}

pub returns-in-Some-Err-clause-goes : goal.returns-in-Some-Err-clause-goes
returns-in-Some-Err-clause-goes g c = record {
  on = λ _. (c.in-Some-Err.ensures.goes, tt, omega (arith, c.in-Some-Err.ensures.lowers, c.loop-head.invariant.size));
  keeps = c.in-Some-Err.ensures.goes;
  rests = λ _. tt;
}

pub returns-in-None-clause-goes : goal.returns-in-None-clause-goes
returns-in-None-clause-goes g c = record { on = λ _. tt; keeps = tt; rests = λ _. tt }

pub returns-in-Err-clause-goes : goal.returns-in-Err-clause-goes
returns-in-Err-clause-goes g c = record {
  on = λ _. (rw c.filtered.ensures.source c.in-Some-Ok.ensures.goes, tt, rw c.filtered.ensures.source (omega (arith, c.in-Some-Ok.ensures.lowers, c.loop-head.invariant.size)));
  keeps = rw c.filtered.ensures.source c.in-Some-Ok.ensures.goes;
  rests = λ _. tt;
}

pub returns-in-Ok-false-clause-goes : goal.returns-in-Ok-false-clause-goes
returns-in-Ok-false-clause-goes g c = record {
  on = λ _. (c.lets_go.ensures.may, tt, omega (arith, c.lets_go.ensures.size, rw c.filtered.ensures.source at c.lets_go.ensures.size, c.in-Some-Ok.ensures.lowers, c.loop-head.invariant.size));
  keeps = c.lets_go.ensures.may;
  rests = λ _. tt;
}

pub returns-in-Err-lets_go-clause-goes : goal.returns-in-Err-lets_go-clause-goes
returns-in-Err-lets_go-clause-goes g c = record {
  on = λ _. (c.lets_go.ensures.may, tt, omega (arith, c.lets_go.ensures.size, rw c.filtered.ensures.source at c.lets_go.ensures.size, c.in-Some-Ok.ensures.lowers, c.loop-head.invariant.size));
  keeps = c.lets_go.ensures.may;
  rests = λ _. tt;
}

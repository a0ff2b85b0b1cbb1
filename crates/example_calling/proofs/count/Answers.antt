use Rattle.std.proofs.Common.{sym, subst}
use Rattle.std.specs.Prelude.{Some}
use Rattle.std.specs.Iterator.{IsFinite}
use Rattle.lsm_tables.specs.Words.{YieldsList}
use Rattle.example_calling.proofs.Counting.{all_counted, fault_counted, none_counted, one_counted}
use Rattle.example_calling.proofs.count.Goals as goal

pub loop-item-init : goal.loop-item-init
loop-item-init g c =
    let next = g.I.Iterator.next_gives in
    let back = g.I.DoubleEndedIterator.next_back_gives in
    let same = c.into_iter-item-iterator.ensures.into_iter_gives in
    record {
      can = subst (λ s. g.I.Iterator.can_next s) (sym same) c.requires.can;
      finite = subst (λ s. IsFinite (g.I.Iterator.remaining s)) (sym same) c.requires.finite;
      counts = λ es d. none_counted next back es c.into_iter-item-iterator.result
          (subst (λ s. YieldsList next back es s) (sym same) d);
    }

pub loop-item-preserved : goal.loop-item-preserved
loop-item-preserved g c =
    let next = g.I.Iterator.next_gives in
    let back = g.I.DoubleEndedIterator.next_back_gives in
    let step = subst (λ r. next c.loop-item.item-iterator (Some r) c.next.new.self) c.in_ok-item.was
    c.in-Some.ensures.steps in
    record {
      can = c.in-Some.ensures.goes.keeps;
      finite = (c.in-Some.ensures.goes.on c.loop-item.invariant.finite).1;
      counts = λ es d. one_counted next back es c.loop-item.count c.saturating_add-count.result
          c.loop-item.item-iterator c.next.new.self c.in_ok-item.field-0
          (c.loop-item.invariant.counts es d) step c.saturating_add-count.ensures;
    }

pub returns-in_err-item-clause-memory : goal.returns-in_err-item-clause-memory
returns-in_err-item-clause-memory g c es d =
    let next = g.I.Iterator.next_gives in
    let f = c.in_err-item.field-0.0 in
    let step = subst (λ r. next c.loop-item.item-iterator (Some r) c.next.new.self) c.in_err-item.was
    c.in-Some.ensures.steps in
    fault_counted next g.I.DoubleEndedIterator.next_back_gives c.from_residual.result es
    c.loop-item.count c.loop-item.item-iterator c.next.new.self f (c.loop-item.invariant.counts es d)
    step c.from_residual.ensures.1

pub returns-clause-exact : goal.returns-clause-exact
returns-clause-exact g c es d = all_counted g.I.Iterator.next_gives g.I.DoubleEndedIterator.next_back_gives es
    c.loop-item.count c.loop-item.item-iterator c.next.new.self (c.loop-item.invariant.counts es d)
    c.in-None.ensures.steps

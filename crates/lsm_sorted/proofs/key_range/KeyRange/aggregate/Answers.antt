-- One more range moves the ends on; the ends along all are those of the span.
use Rattle.std.proofs.Common.{arith}
use Rattle.std.proofs.lemmas.List.{at_drop_more}
use Rattle.lsm_sorted.specs.version.KeyRange.{intervals}
use Rattle.lsm_sorted.proofs.SpanLemmas.{span_from, aggregate_at_end}
use Rattle.lsm_sorted.proofs.key_range.KeyRange.aggregate.Goals as goal

pub loop-other-preserved : goal.loop-other-preserved
loop-other-preserved g c =
    let next = at_drop_more (λ rs. span_from c.loop-other.min.now c.loop-other.max.now (intervals rs)) c.in-Some.others.now c.loop-other.other-index c.other-item.result (omega arith) in
    cc

pub returns-clause-ok : goal.returns-clause-ok
returns-clause-ok g c =
    aggregate_at_end c.args.ranges.now c.in-Some.first.now c.in-Some.others.now c.min-min.result.now c.max-max.result.now
    c.loop-other.min.now c.loop-other.max.now c.loop-other.other-index c.in_ok-clone.field-0 c.in_ok-clone-2.field-0
    c.in-Some.ensures.cases.0 c.min-min.ensures c.max-max.ensures c.loop-other.invariant (omega arith) c.in_ok-clone.ensures.cases c.in_ok-clone-2.ensures.cases

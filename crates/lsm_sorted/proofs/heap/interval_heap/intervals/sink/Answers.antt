use Rattle.std.proofs.Common.{◌∙◌, length, sym}
use Rattle.std.proofs.lemmas.List.{get_or_read}
use Rattle.std.proofs.lemmas.List.Sorted.{IsPermutation-trans, length_permutation}
use Rattle.lsm_sorted.proofs.MergePlaceLemmas.{child_within}
use Rattle.lsm_sorted.proofs.IntervalHeapLemmas.{sunk_last, sunk_first, sinking_more}
use Rattle.lsm_sorted.proofs.heap.interval_heap.intervals.sink.Goals as goal

pub returns-in_default-clause-items : goal.returns-in_default-clause-items
returns-in_default-clause-items g c = IsPermutation-trans _ _ _ c.loop-child.invariant.items c.order_node.ensures.items

pub returns-in_default-clause-heap : goal.returns-in_default-clause-heap
returns-in_default-clause-heap g c =
    sunk_last c.args.side g.T.Ord.cmp g.met.T.Ord.total c.order_node.new.items c.loop-child.place c.order_node.ensures.sinking c.order_node.ensures.ordered c.in_default.ensures.none

pub returns-then-not-is_before-clause-items : goal.returns-then-not-is_before-clause-items
returns-then-not-is_before-clause-items g c = IsPermutation-trans _ _ _ c.loop-child.invariant.items c.order_node.ensures.items

pub returns-then-not-is_before-clause-heap : goal.returns-then-not-is_before-clause-heap
returns-then-not-is_before-clause-heap g c =
    let items = c.order_node.new.items in
    let low = child_within c.args.side (length items) c.loop-child.place c.in-Some.child c.in-Some.ensures.some in
    let at_child = get_or_read items c.in-Some.child c.index-items-child.result low c.index-items-child.is in
    let at_place = get_or_read items c.loop-child.place c.index-items-place.result c.order_node.ensures.sinking.within c.index-items-place.is in
    sunk_first c.args.side g.T.Ord.cmp g.met.T.Ord.total items c.loop-child.place c.order_node.ensures.sinking c.order_node.ensures.ordered c.in-Some.child
    (λ d. rw (← at_child d, ← at_place d) (sym c.if-not-is_before.ensures))
    c.in-Some.ensures.first

pub loop-child-preserved : goal.loop-child-preserved
loop-child-preserved g c =
    let items = c.order_node.new.items in
    let low = child_within c.args.side (length items) c.loop-child.place c.in-Some.child c.in-Some.ensures.some in
    let at_child = get_or_read items c.in-Some.child c.index-items-child.result low c.index-items-child.is in
    let at_place = get_or_read items c.loop-child.place c.index-items-place.result c.order_node.ensures.sinking.within c.index-items-place.is in
    record {
      items = IsPermutation-trans _ _ _ (IsPermutation-trans _ _ _ c.loop-child.invariant.items c.order_node.ensures.items) c.swap.ensures.permutation;
      same = c.swap.ensures.len ∙ length_permutation _ _ c.order_node.ensures.items ∙ c.loop-child.invariant.same;
      sinking = sinking_more c.args.side g.T.Ord.cmp g.met.T.Ord.total items c.swap.new.self c.loop-child.place c.in-Some.child c.swap.ensures.after c.order_node.ensures.sinking.within low
          (λ d. rw (← at_child d, ← at_place d) (sym c.if-not-is_before.ensures))
          c.in-Some.ensures.some c.order_node.ensures.ordered c.in-Some.ensures.first c.order_node.ensures.sinking;
    }

use Rattle.std.proofs.Common.{◌<◌, ◌∙◌, length, sym, arith}
use Rattle.std.proofs.lemmas.List.{get_or_read}
use Rattle.std.proofs.lemmas.List.Sorted.{IsPermutation-trans}
use Rattle.lsm_sorted.proofs.MergePlaceLemmas.{above_below}
use Rattle.lsm_sorted.proofs.IntervalHeapLemmas.{rising_more, risen_to_root, risen_below}
use Rattle.lsm_sorted.proofs.heap.interval_heap.intervals.rise.Goals as goal

pub loop-place-preserved : goal.loop-place-preserved
loop-place-preserved g c =
    let items = c.loop-place.items in
    let low : c.place_above-above.result < length items = rw c.place_above-above.ensures (omega (arith, above_below c.args.side c.loop-place.place c.loop-place-test.true, c.loop-place.invariant.rising.within)) in
    let at_above = get_or_read items c.place_above-above.result c.index-items-above.result low c.index-items-above.is in
    let at_place = get_or_read items c.loop-place.place c.index-items-place.result c.loop-place.invariant.rising.within c.index-items-place.is in
    record {
      items = IsPermutation-trans _ _ _ c.loop-place.invariant.items c.swap.ensures.permutation;
      same = c.swap.ensures.len ∙ c.loop-place.invariant.same;
      rising = rising_more c.args.side g.T.Ord.cmp g.met.T.Ord.total items c.swap.new.self c.place_above-above.result c.loop-place.place c.swap.ensures.after low c.loop-place.invariant.rising.within
          (λ d. rw (← at_above d, ← at_place d) (sym c.if-not-is_before.ensures))
          c.place_above-above.ensures c.loop-place-test.true c.loop-place.invariant.rising;
    }

pub returns-then-not-is_before-clause-heap : goal.returns-then-not-is_before-clause-heap
returns-then-not-is_before-clause-heap g c =
    let items = c.loop-place.items in
    let low : c.place_above-above.result < length items = rw c.place_above-above.ensures (omega (arith, above_below c.args.side c.loop-place.place c.loop-place-test.true, c.loop-place.invariant.rising.within)) in
    let at_above = get_or_read items c.place_above-above.result c.index-items-above.result low c.index-items-above.is in
    let at_place = get_or_read items c.loop-place.place c.index-items-place.result c.loop-place.invariant.rising.within c.index-items-place.is in
    risen_below c.args.side g.T.Ord.cmp g.met.T.Ord.total items c.loop-place.place c.loop-place.invariant.rising
    (λ d. rw (← c.place_above-above.ensures, ← at_above d, ← at_place d) (sym c.if-not-is_before.ensures))

pub returns-clause-heap : goal.returns-clause-heap
returns-clause-heap g c = risen_to_root c.args.side g.T.Ord.cmp g.met.T.Ord.total c.loop-place.items c.loop-place.place c.loop-place-test.false c.loop-place.invariant.rising

use Rattle.std.proofs.Common.{ℕ, ◌<◌, length, sym, arith}
use Rattle.std.proofs.lemmas.List.{get_or_read}
use Rattle.lsm_sorted.proofs.IntervalHeapLemmas.{rising_low_single, rising_high_single}
use Rattle.lsm_sorted.proofs.heap.interval_heap.intervals.order_single.Goals as goal

pub rise-requires : goal.rise-requires
rise-requires g c =
    let items = c.args.items.now in
    let last : ℕ = c.args.last in
    let low : c.place_above-above.result < length items = omega (arith, c.place_above-above.ensures) in
    let at_last = get_or_read items last c.index-items-last.result (omega arith) c.index-items-last.is in
    let at_low = get_or_read items c.place_above-above.result c.index-items-above.result low c.index-items-above.is in
    rising_low_single g.T.Ord.cmp g.met.T.Ord.total items last c.requires.last c.requires.others c.requires.even c.requires.some c.place_above-above.result c.place_above-above.ensures
    (λ d. rw (← at_low d, ← at_last d) (sym c.if-is_before.ensures))

pub rise-requires-else-is_before : goal.rise-requires-else-is_before
rise-requires-else-is_before g c =
    let items = c.args.items.now in
    let last : ℕ = c.args.last in
    let low : c.place_above-above.result < length items = omega (arith, c.place_above-above.ensures) in
    let at_last = get_or_read items last c.index-items-last.result (omega arith) c.index-items-last.is in
    let at_low = get_or_read items c.place_above-above.result c.index-items-above.result low c.index-items-above.is in
    rising_high_single g.T.Ord.cmp g.met.T.Ord.total items last c.requires.last c.requires.others c.requires.even c.requires.some c.place_above-above.result c.place_above-above.ensures
    (λ d. rw (← at_low d, ← at_last d) (sym c.if-is_before.ensures))

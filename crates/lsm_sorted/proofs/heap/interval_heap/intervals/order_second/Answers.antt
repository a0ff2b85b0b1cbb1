use Rattle.std.proofs.Common.{ℕ, ◌-◌, refl, sym, arith}
use Rattle.std.proofs.lemmas.List.{get_or_read}
use Rattle.std.proofs.lemmas.List.Sorted.{IsPermutation-trans}
use Rattle.lsm_sorted.proofs.IntervalHeapLemmas.{rising_low_pair, rising_high_pair}
use Rattle.lsm_sorted.proofs.heap.interval_heap.intervals.order_second.Goals as goal

pub rise-requires : goal.rise-requires
rise-requires g c =
    let items = c.args.items.now in
    let last : ℕ = c.args.last in
    let at_last = get_or_read items last c.index-items-last.result (omega arith) c.index-items-last.is in
    let at_first = get_or_read items (last - 1) c.index-items-first.result (omega arith) c.index-items-first.is in
    rising_low_pair g.T.Ord.cmp g.met.T.Ord.total items last c.requires.last c.requires.others c.requires.odd (last - 1) refl c.swap.new.self c.swap.ensures.after
    (λ d. rw (← at_first d, ← at_last d) (sym c.if-is_before.ensures))

pub rise-requires-else-is_before : goal.rise-requires-else-is_before
rise-requires-else-is_before g c =
    let items = c.args.items.now in
    let last : ℕ = c.args.last in
    let at_last = get_or_read items last c.index-items-last.result (omega arith) c.index-items-last.is in
    let at_first = get_or_read items (last - 1) c.index-items-first.result (omega arith) c.index-items-first.is in
    rising_high_pair g.T.Ord.cmp g.met.T.Ord.total items last c.requires.last c.requires.others c.requires.odd (last - 1) refl
    (λ d. rw (← at_first d, ← at_last d) (sym c.if-is_before.ensures))

pub returns-then-is_before-clause-items : goal.returns-then-is_before-clause-items
returns-then-is_before-clause-items g c = IsPermutation-trans _ _ _ c.swap.ensures.permutation c.rise.ensures.items

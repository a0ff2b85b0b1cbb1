use Rattle.std.proofs.Common.{ℕ, sym}
use Rattle.std.proofs.lemmas.List.{get_or_read}
use Rattle.lsm_sorted.specs.merge.Order.{toward}
use Rattle.lsm_sorted.proofs.OrderLemmas.{toward_total, not_both}
use Rattle.lsm_sorted.proofs.IntervalHeapLemmas.{in_order_itself, first_alone, first_of_two}
use Rattle.lsm_sorted.proofs.heap.interval_heap.intervals.first_child.Goals as goal

pub returns-in_default-clause-first : goal.returns-in_default-clause-first
returns-in_default-clause-first g c =
    first_alone c.args.side g.T.Ord.cmp g.met.T.Ord.total c.args.items.now c.args.place c.in_ok-left.left c.in_ok-left.ensures.within c.in_ok-left.ensures.end c.in_ok-left.ensures.node c.in_default.ensures.none

pub returns-then-is_before-clause-first : goal.returns-then-is_before-clause-first
returns-then-is_before-clause-first g c =
    let items = c.args.items.now in
    let left : ℕ = c.in_ok-left.left in
    let right : ℕ = c.in-Some.right in
    let at_left = get_or_read items left c.index-items-left.result c.in_ok-left.ensures.within c.index-items-left.is in
    let at_right = get_or_read items right c.index-items-right.result c.in-Some.ensures.within c.index-items-right.is in
    first_of_two c.args.side g.T.Ord.cmp g.met.T.Ord.total items c.args.place left right right
    c.in_ok-left.ensures.within c.in_ok-left.ensures.end c.in_ok-left.ensures.node c.in-Some.ensures.within c.in-Some.ensures.end c.in-Some.ensures.node
    (λ d. rw (← at_left d, ← at_right d) (not_both (toward c.args.side g.T.Ord.cmp) (toward_total c.args.side g.met.T.Ord.total) c.index-items-left.result c.index-items-right.result (sym c.if-is_before.ensures)))
    (in_order_itself c.args.side g.T.Ord.cmp g.met.T.Ord.total items right)

pub returns-else-is_before-clause-first : goal.returns-else-is_before-clause-first
returns-else-is_before-clause-first g c =
    let items = c.args.items.now in
    let left : ℕ = c.in_ok-left.left in
    let right : ℕ = c.in-Some.right in
    let at_left = get_or_read items left c.index-items-left.result c.in_ok-left.ensures.within c.index-items-left.is in
    let at_right = get_or_read items right c.index-items-right.result c.in-Some.ensures.within c.index-items-right.is in
    first_of_two c.args.side g.T.Ord.cmp g.met.T.Ord.total items c.args.place left right left
    c.in_ok-left.ensures.within c.in_ok-left.ensures.end c.in_ok-left.ensures.node c.in-Some.ensures.within c.in-Some.ensures.end c.in-Some.ensures.node
    (in_order_itself c.args.side g.T.Ord.cmp g.met.T.Ord.total items left)
    (λ d. rw (← at_left d, ← at_right d) (sym c.if-is_before.ensures))

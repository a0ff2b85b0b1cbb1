use Rattle.std.proofs.Common.{sym, arith}
use Rattle.std.proofs.lemmas.List.{get_or_read}
use Rattle.std.proofs.lemmas.List.Sorted.{IsPermutation-refl}
use Rattle.lsm_sorted.proofs.MergePlaceLemmas.{IsOther}
use Rattle.lsm_sorted.proofs.IntervalHeapLemmas.{sinking_still, node_ordered, node_kept, node_alone}
use Rattle.lsm_sorted.proofs.heap.interval_heap.intervals.order_node.Goals as goal
use Rattle.lsm_sorted.proofs.heap.interval_heap.intervals.order_node.Goals.{Joined-place-eq0}
use Rattle.lsm_sorted.proofs.heap.interval_heap.intervals.order_node.Goals.{then-place-eq0}
use Rattle.lsm_sorted.proofs.heap.interval_heap.intervals.order_node.Goals.{else-place-eq0}
use Rattle.lsm_sorted.proofs.heap.interval_heap.intervals.order_node.Goals.{else-other-items-via-then-other-items+else-is_before}
use Rattle.lsm_sorted.proofs.heap.interval_heap.intervals.order_node.Goals.{else-other-items-via-else-other-items}

is_other : (g : _) (c : Joined-place-eq0 g) → IsOther c.args.place c.if-place-eq0.other
is_other g c = elim c.if-place-eq0.branch [
  | then-place-eq0 w ↦ record { same = omega arith; differs = omega arith }
  | else-place-eq0 w ↦ record { same = omega arith; differs = omega arith }
]

pub returns-then-is_before-clause-sinking : goal.returns-then-is_before-clause-sinking
returns-then-is_before-clause-sinking g c =
    let items = c.args.items.now in
    let at_other = get_or_read items c.if-place-eq0.other c.index-items-other.result c.if-other-items.true c.index-items-other.is in
    let at_place = get_or_read items c.args.place c.index-items-place.result c.requires.within c.index-items-place.is in
    sinking_still c.args.side g.T.Ord.cmp g.met.T.Ord.total items c.swap.new.self c.args.place c.if-place-eq0.other c.swap.ensures.after c.requires.within c.if-other-items.true
    (λ d. rw (← at_other d, ← at_place d) (sym c.if-is_before.ensures))
    (is_other g (goal.at.returns-then-is_before-clause-sinking g c).Joined-place-eq0) c.requires

pub returns-then-is_before-clause-ordered : goal.returns-then-is_before-clause-ordered
returns-then-is_before-clause-ordered g c =
    let items = c.args.items.now in
    let at_other = get_or_read items c.if-place-eq0.other c.index-items-other.result c.if-other-items.true c.index-items-other.is in
    let at_place = get_or_read items c.args.place c.index-items-place.result c.requires.within c.index-items-place.is in
    node_ordered c.args.side g.T.Ord.cmp g.met.T.Ord.total items c.swap.new.self c.args.place c.if-place-eq0.other c.swap.ensures.after c.requires.within c.if-other-items.true
    (λ d. rw (← at_other d, ← at_place d) (sym c.if-is_before.ensures))
    (is_other g (goal.at.returns-then-is_before-clause-ordered g c).Joined-place-eq0)

pub returns-else-other-items-clause-items : goal.returns-else-other-items-clause-items
returns-else-other-items-clause-items g c = IsPermutation-refl _

pub returns-else-other-items-clause-sinking : goal.returns-else-other-items-clause-sinking
returns-else-other-items-clause-sinking g c = c.requires

pub returns-else-other-items-clause-ordered : goal.returns-else-other-items-clause-ordered
returns-else-other-items-clause-ordered g c =
    let items = c.args.items.now in
    let other = c.if-place-eq0.other in
    let ends = is_other g (goal.at.returns-else-other-items-clause-ordered g c).Joined-place-eq0 in
    elim c.else-other-items.branch [
      | else-other-items-via-then-other-items+else-is_before w ↦
          let at_other = get_or_read items other w.index-items-other.result w.if-other-items.true w.index-items-other.is in
          let at_place = get_or_read items c.args.place w.index-items-place.result c.requires.within w.index-items-place.is in
          node_kept c.args.side g.T.Ord.cmp g.met.T.Ord.total items c.args.place other ends (λ d. rw (← at_other d, ← at_place d) (sym w.if-is_before.ensures))
      | else-other-items-via-else-other-items w ↦ node_alone c.args.side g.T.Ord.cmp g.met.T.Ord.total items c.args.place other ends w.if-other-items.false
    ]

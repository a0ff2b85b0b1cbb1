use Rattle.std.proofs.Common.{◌<◌, length, ap, arith}
use Rattle.std.specs.List.Sorted.{IsPermutation}
use Rattle.std.proofs.lemmas.List.{get_or_read}
use Rattle.std.proofs.lemmas.List.Sorted.{IsPermutation-cons, IsPermutation-trans, IsPermutation-swap_remove, length_permutation}
use Rattle.lsm_sorted.specs.merge.IntervalHeap.{Heap}
use Rattle.lsm_sorted.specs.merge.Intervals.{IsRoot}
use Rattle.lsm_sorted.proofs.IntervalHeapLemmas.{as_written, root_first, sinks_from_root}
use Rattle.lsm_sorted.proofs.heap.interval_heap.IntervalHeap.pop.Goals as goal
use Rattle.lsm_sorted.proofs.heap.interval_heap.IntervalHeap.pop.Goals.{After-swap_remove-item}

-- the place that is emptied is the root's
from_root : (g : _) (c : After-swap_remove-item g) → IsRoot c.args.end (length c.self.inside.items.items) c.root_end-place.result × (c.root_end-place.result < length c.self.inside.items.items)
from_root g c =
    let size = c.self.inside.items.ok.0 in
    (rw (← size, ← c.len.ensures) c.root_end-place.ensures.root, rw (← size, ← c.len.ensures) c.root_end-place.ensures.within)

pub sink-requires : goal.sink-requires
sink-requires g c =
    let root = from_root g (goal.at.sink-requires g c).After-swap_remove-item in
    rw c.deref_mut.ensures.value
    (sinks_from_root c.args.end g.T.Ord.cmp g.met.T.Ord.total c.self.inside.items.items c.self.invariant c.root_end-place.result c.swap_remove-item.new.self.items
    (omega (arith, c.swap_remove-item.ensures.len, c.self.inside.items.ok.0, c.swap_remove-item.new.self.ok.0))
    (λ k d ne low. c.swap_remove-item.ensures.by_index.1 k d ne (rw c.self.inside.items.ok.0 low))
    root.0)

pub returns-clause-taken : goal.returns-clause-taken
returns-clause-taken g c =
    let root = from_root g (goal.at.returns-clause-taken g c).After-swap_remove-item in
    let before = ap (λ (h : Heap g.row.T.Denot). h.items) c.self.view_is in
    let rest = c.swap_remove-item.new.self.items in
    let moved : IsPermutation rest c.sink.new.items = rw (← c.deref_mut.ensures.value) c.sink.ensures.items in
    let out = IsPermutation-swap_remove c.self.inside.items.items c.root_end-place.result c.swap_remove-item.result root.1 c.swap_remove-item.ensures.value in
    rw (as_written c.sink.new.items rest c.swap_remove-item.new.self.len (length_permutation _ _ moved) c.swap_remove-item.new.self.ok.0, ← before)
    (IsPermutation-trans _ _ _ (rw c.swap_remove-item.ensures.items out) (IsPermutation-cons c.swap_remove-item.result _ _ moved))

pub returns-clause-first : goal.returns-clause-first
returns-clause-first g c =
    let root = from_root g (goal.at.returns-clause-first g c).After-swap_remove-item in
    let before = ap (λ (h : Heap g.row.T.Denot). h.items) c.self.view_is in
    let items = c.self.inside.items.items in
    let at_root = get_or_read items c.root_end-place.result c.swap_remove-item.result root.1 c.swap_remove-item.ensures.value in
    rw (← before) (λ k d low. rw (at_root d) (root_first c.args.end g.T.Ord.cmp g.met.T.Ord.total items c.self.invariant c.root_end-place.result root.0 k low d))

use Rattle.std.proofs.Common.{ap}
use Rattle.std.specs.List.Sorted.{IsPermutation}
use Rattle.std.proofs.lemmas.List.Sorted.{IsPermutation-sym, IsPermutation-trans, IsPermutation-to_front, length_permutation}
use Rattle.lsm_sorted.specs.merge.IntervalHeap.{Heap}
use Rattle.lsm_sorted.proofs.IntervalHeapLemmas.{as_written}
use Rattle.lsm_sorted.proofs.heap.interval_heap.IntervalHeap.push.Goals as goal

pub returns-clause-items : goal.returns-clause-items
returns-clause-items g c =
    let before = ap (λ (h : Heap g.row.T.Denot). h.items) c.self.view_is in
    let pushed = c.push_reserved.new.self.items in
    let moved : IsPermutation pushed c.order_last.new.items = rw (← c.deref_mut.ensures.value) c.order_last.ensures.items in
    rw (as_written c.order_last.new.items pushed c.push_reserved.new.self.len (length_permutation _ _ moved) c.push_reserved.new.self.ok.0, ← before)
    (IsPermutation-trans _ _ _ (IsPermutation-sym _ _ (IsPermutation-to_front c.self.inside.items.items c.args.item)) (rw (← c.push_reserved.ensures.items) moved))

use Rattle.lsm_sorted.proofs.SlotLemmas.{IsFreeList-new}
use Rattle.lsm_sorted.proofs.heap.lazy_tournament.slots.Slots.new.Goals as goal

pub invariant_of-result : goal.invariant_of-result
invariant_of-result g c =
    rw (c.in_ok-empty_places.ensures, c.in_ok-free.ensures.room)
    (IsFreeList-new c.args.places c.args.room c.in_ok-free.free.items c.requires c.in_ok-free.ensures.count c.in_ok-free.ensures.each)

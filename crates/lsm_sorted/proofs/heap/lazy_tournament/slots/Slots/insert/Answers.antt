use Rattle.lsm_sorted.proofs.SlotLemmas.{IsFreeList-fill}
use Rattle.lsm_sorted.proofs.heap.lazy_tournament.slots.Slots.insert.Goals as goal

pub invariant_of-self : goal.invariant_of-self
invariant_of-self g c =
    rw (c.replace.ensures.after, c.pop.ensures.capacity)
    (IsFreeList-fill c.self.inside.places.items c.self.inside.free.items c.pop.new.self.items _ c.in-Some.slot c.args.item c.in-Some.ensures.items c.self.invariant)

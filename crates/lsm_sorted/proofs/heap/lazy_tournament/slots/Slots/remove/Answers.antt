use Rattle.std.proofs.Common.{◌≡◌, ◌<◌, ◌∙◌, length, sym, ap, arith, Some, None}
use Rattle.std.proofs.lemmas.List.{get_or_read}
use Rattle.std.proofs.lemmas.List.Sorted.{length_permutation}
use Rattle.lsm_sorted.specs.merge.Slots.{Places, slot_at}
use Rattle.lsm_sorted.proofs.SlotLemmas.{IsFreeList-empty, occupants-empty}
use Rattle.lsm_sorted.proofs.heap.lazy_tournament.slots.Slots.remove.Goals as goal
use Rattle.lsm_sorted.proofs.heap.lazy_tournament.slots.Slots.remove.Goals.{In_ok-item}

-- the place holds the item
held_there : (g : _) (c : In_ok-item g) → (c.args.slot < length c.self.inside.places.items) × (slot_at c.self.inside.places.items c.args.slot ≡ Some c.in_ok-item.item)
held_there g c =
    let same : c.self.inside.places.items ≡ c.args.self.now.places = ap (λ (v : Places g.row.T.Denot). v.places) c.self.view_is in
    let low : c.args.slot < length c.self.inside.places.items = rw same c.requires in
    (low, sym (get_or_read c.self.inside.places.items c.args.slot c.index_mut.result.now low c.index_mut.ensures.value None) ∙ sym c.in_ok-item.ensures.value)

pub push_reserved-requires : goal.push_reserved-requires
push_reserved-requires g c =
    let h = held_there g (goal.at.push_reserved-requires g c).In_ok-item in
    let p = length_permutation _ _ (occupants-empty c.self.inside.places.items c.args.slot c.in_ok-item.item h.0 h.1) in
    omega (arith, p, c.self.invariant.count)

pub invariant_of-self-2 : goal.invariant_of-self-2
invariant_of-self-2 g c =
    let h = held_there g (goal.at.invariant_of-self-2 g c).In_ok-item in
    rw (c.take.ensures.after, c.push_reserved.ensures.capacity, c.push_reserved.ensures.items)
    (IsFreeList-empty c.self.inside.places.items c.self.inside.free.items _ c.args.slot c.in_ok-item.item h.0 h.1 c.self.invariant)

use Rattle.std.proofs.Common.{◌≡◌, ◌≢◌, ◌≤◌, ◌<◌, ℕ, ◌+◌, ◌-◌, ◌∙◌, ap, sym, arith, List, ◌∷◌, [], ◌++◌, length, get_or, ⊎_elim}
use Rattle.std.specs.Vec.{vec_len, vec_capacity}
use Rattle.std.specs.declared.vec.Vec.{Vec}
use Rattle.std.proofs.lemmas.Bool.{cases_eq}
use Rattle.std.proofs.lemmas.List.{length-append, get_or_append_left, get_or_push}
use Rattle.lsm_sorted.proofs.SlotLemmas.{below_both}
use Rattle.lsm_sorted.proofs.heap.lazy_tournament.slots.first_slots.Goals as goal

has_room : {Z : Type 0} (v : Vec ℕ Z) (slot count : ℕ) → length v.items + slot ≡ count → vec_capacity v ≡ count → 0 < slot → vec_len v < vec_capacity v
has_room v slot count e room low = let long : length v.items < count = omega arith in below_both (vec_len v) (vec_capacity v) (length v.items) count v.ok.0 room long

-- one more slot is listed
length_more : (xs : List ℕ) (slot count : ℕ) → length xs + slot ≡ count → 0 < slot → length (xs ++ (slot - 1) ∷ []) + (slot - 1) ≡ count
length_more xs slot count e low = omega (arith, length-append xs ((slot - 1) ∷ []))

each_more : (xs : List ℕ) (slot count : ℕ) → length xs + slot ≡ count → 0 < slot → ((i : ℕ) → i < length xs → get_or xs i 0 + i + 1 ≡ count) → (i : ℕ) → i < length (xs ++ (slot - 1) ∷ []) → get_or (xs ++ (slot - 1) ∷ []) i 0 + i + 1 ≡ count
each_more xs slot count e low each i h = ⊎_elim
    (λ (last : i ≡ length xs). omega (arith, get_or_push xs (slot - 1) 0 i (sym last)))
    (λ (ne : i ≢ length xs).
    let before : i < length xs = omega (arith, length-append xs ((slot - 1) ∷ [])) in
    rw (get_or_append_left xs ((slot - 1) ∷ []) 0 i before) (each i before))
    (cases_eq i (length xs))

-- none is left
all_listed : (n slot count : ℕ) → n + slot ≡ count → slot ≤ 0 → n ≡ count
all_listed n slot count e none = omega arith

none_listed : (xs : List ℕ) (count : ℕ) → xs ≡ [] → length xs + count ≡ count
none_listed xs count e = omega (arith, ap length e)

none_yet : (xs : List ℕ) (count i : ℕ) → xs ≡ [] → i < length xs → get_or xs i 0 + i + 1 ≡ count
none_yet xs count i e h = absurd (omega (arith, ap length e))

pub loop-slot-init : goal.loop-slot-init
loop-slot-init g c = record {
  room = c.in_ok-free.ensures.exact;
  count = none_listed c.in_ok-free.free.items c.args.count c.in_ok-free.ensures.items;
  each = λ i h. none_yet c.in_ok-free.free.items c.args.count i c.in_ok-free.ensures.items h;
}

pub push_reserved-requires : goal.push_reserved-requires
push_reserved-requires g c = has_room c.loop-slot.free c.loop-slot.slot c.args.count c.loop-slot.invariant.count c.loop-slot.invariant.room c.loop-slot-test.true

pub loop-slot-preserved : goal.loop-slot-preserved
loop-slot-preserved g c = record {
  room = c.push_reserved.ensures.capacity ∙ c.loop-slot.invariant.room;
  count = rw c.push_reserved.ensures.items (length_more c.loop-slot.free.items c.loop-slot.slot c.args.count c.loop-slot.invariant.count c.loop-slot-test.true);
  each = rw c.push_reserved.ensures.items (each_more c.loop-slot.free.items c.loop-slot.slot c.args.count c.loop-slot.invariant.count c.loop-slot-test.true c.loop-slot.invariant.each);
}

pub returns-clause-room : goal.returns-clause-room
returns-clause-room g c = c.loop-slot.invariant.room

pub returns-clause-count : goal.returns-clause-count
returns-clause-count g c = all_listed (length c.loop-slot.free.items) c.loop-slot.slot c.args.count c.loop-slot.invariant.count c.loop-slot-test.false

pub returns-clause-each : goal.returns-clause-each
returns-clause-each g c i h =
    let all = all_listed (length c.loop-slot.free.items) c.loop-slot.slot c.args.count c.loop-slot.invariant.count c.loop-slot-test.false in
    c.loop-slot.invariant.each i (rw all h)

-- What a list of places holds after a change, and which of them are free.
use Rattle.std.proofs.Common.{◌≡◌, ◌≢◌, ◌⊎◌, ℕ, zero, suc, ◌+◌, ◌<◌, ◌≤◌, List, [], ◌∷◌, ◌++◌}
use Rattle.std.proofs.Common.{Option, Some, None, length, get_or, set, replicate, refl, sym, ◌∙◌}
use Rattle.std.proofs.Common.{ap, ⊎_elim, inl, inr, arith}
use Rattle.std.specs.List.Sorted.{IsPermutation}
use Rattle.std.proofs.lemmas.List.{length-set, length-append, length-replicate, get_or-replicate}
use Rattle.std.proofs.lemmas.List.{get_or-set_same, get_or-set_other, get_or_append_left}
use Rattle.std.proofs.lemmas.List.{get_or_push, set-set, set-get_or}
use Rattle.std.proofs.lemmas.List.Sorted.{IsPermutation-refl, IsPermutation-sym, IsPermutation-cons}
use Rattle.std.proofs.lemmas.List.Sorted.{IsPermutation-trans, IsPermutation-middle}
use Rattle.std.proofs.lemmas.List.Sorted.{length_permutation}
use Rattle.std.proofs.lemmas.Bool.{cases_eq}
use Rattle.lsm_sorted.specs.merge.Slots.{occupants, slot_at, IsFreeList}

pub occupants-replicate : {T : Type 0} (n : ℕ) → occupants (replicate {A = Option T} n None) ≡ []
occupants-replicate zero = refl
occupants-replicate (suc n) = occupants-replicate n

-- an item goes into an empty slot
pub occupants-fill : {T : Type 0} (places : List (Option T)) (s : ℕ) (x : T) → s < length places
    → slot_at places s ≡ None
    → IsPermutation (x ∷ occupants places) (occupants (set places s (Some x)))
occupants-fill [] s x low empty = absurd (omega arith)
occupants-fill (None ∷ places) zero x low empty = IsPermutation-refl _
occupants-fill (Some y ∷ places) zero x low empty = cc
occupants-fill (None ∷ places) (suc s) x low empty = occupants-fill places s x (omega arith) empty
occupants-fill (Some y ∷ places) (suc s) x low empty =
    IsPermutation-trans _ _ _ (IsPermutation-sym _ _
    (IsPermutation-middle (y ∷ []) x (occupants places)))
    (IsPermutation-cons y _ _ (occupants-fill places s x (omega arith) empty))

-- the item of a slot is taken out
pub occupants-empty : {T : Type 0} (places : List (Option T)) (s : ℕ) (x : T) → s < length places
    → slot_at places s ≡ Some x
    → IsPermutation (occupants places) (x ∷ occupants (set places s None))
occupants-empty places s x low is =
    let back : set (set places s None) s (Some x) ≡ places = set-set places s None (Some x)
    ∙ ap (λ o. set places s o) (sym is) ∙ set-get_or places s None in
    let inside : s < length (set places s None) = rw length-set low in
    let p = occupants-fill (set places s None) s x inside
    (get_or-set_same places s None None low) in
    IsPermutation-sym _ _ (rw back at p)

pub IsFreeList-new : {T : Type 0} (n room : ℕ) (free : List ℕ) → room ≤ n → length free ≡ room
    → ((i : ℕ) → i < room → get_or free i 0 + i + 1 ≡ room)
    → IsFreeList (replicate {A = Option T} n None) free room
IsFreeList-new {T} n room free fits count each = record {
  count = let e = ap length (occupants-replicate {T = T} n) in omega (arith, e, count);
  within = λ i h. let e = each i (omega arith) in
      omega (arith, e, length-replicate {A = Option T} n None);
  empty = λ i h. let e = each i (omega arith) in
      get_or-replicate {A = Option T} n (get_or free i 0) None None (omega arith);
  apart = λ i j h k same. let e = each i (omega arith) in let f = each j (omega arith) in
      omega arith;
}

-- the last free slot is taken
pub IsFreeList-fill : {T : Type 0} (places : List (Option T)) (free rest : List ℕ) (room s : ℕ)
    (x : T) → free ≡ rest ++ s ∷ [] → IsFreeList places free room
    → IsFreeList (set places s (Some x)) rest room
IsFreeList-fill places free rest room s x is f =
    let size : length free ≡ length rest + 1 = ap length is ∙ length-append rest (s ∷ []) in
    let at_end : get_or free (length rest) 0 ≡ s = ap (λ l. get_or l (length rest) 0) is
    ∙ get_or_push rest s 0 (length rest) refl in
    let same : (i : ℕ) → i < length rest → get_or free i 0 ≡ get_or rest i 0 =
    λ i h. ap (λ l. get_or l i 0) is ∙ get_or_append_left rest (s ∷ []) 0 i h in
    let inside : s < length places = let w = f.within (length rest) (omega arith) in
    rw at_end at w in
    let was : slot_at places s ≡ None = let w = f.empty (length rest) (omega arith) in
    rw at_end at w in
    let grown = length_permutation _ _ (occupants-fill places s x inside was) in
    record {
      count = let c = f.count in omega (arith, grown, c);
      within = λ i h. let w = f.within i (omega arith) in let e = same i h in
          omega (arith, length-set places s (Some x));
      empty = λ i h.
          let e = same i h in
          let a = f.apart i (length rest) h (omega arith) in
          let ne : get_or rest i 0 ≢ s = λ q. a (e ∙ q ∙ sym at_end) in
          get_or-set_other places s (get_or rest i 0) (Some x) None ne
          ∙ ap (λ k. slot_at places k) (sym e) ∙ f.empty i (omega arith);
      apart = λ i j h k q. f.apart i j h (omega arith) (same i (omega arith) ∙ q ∙ sym (same j k));
    }

lt_or_eq : (i n : ℕ) → i < n + 1 → (i < n) ⊎ (i ≡ n)
lt_or_eq i n h = ⊎_elim (λ e. inr e) (λ (ne : i ≢ n). inl (omega arith)) (cases_eq i n)

-- a taken slot becomes free
pub IsFreeList-empty : {T : Type 0} (places : List (Option T)) (free : List ℕ) (room s : ℕ) (x : T)
    → s < length places → slot_at places s ≡ Some x → IsFreeList places free room
    → IsFreeList (set places s None) (free ++ s ∷ []) room
IsFreeList-empty places free room s x low is f =
    let shrunk = length_permutation _ _ (occupants-empty places s x low is) in
    let at_end : get_or (free ++ s ∷ []) (length free) 0 ≡ s =
    get_or_push free s 0 (length free) refl in
    let same : (i : ℕ) → i < length free → get_or (free ++ s ∷ []) i 0 ≡ get_or free i 0 =
    λ i h. get_or_append_left free (s ∷ []) 0 i h in
    let other : (i : ℕ) → i < length free → get_or free i 0 ≢ s = λ i h q. let e = f.empty i h in
    let e2 : slot_at places s ≡ None = rw q at e in cc in
    let size : length (free ++ s ∷ []) ≡ length free + 1 = length-append free (s ∷ []) in
    let split : (i : ℕ) → i < length (free ++ s ∷ []) → (i < length free) ⊎ (i ≡ length free) =
    λ i h. lt_or_eq i (length free) (omega arith) in
    record {
      count = let c = f.count in omega (arith, shrunk);
      within = λ i h. ⊎_elim
          (λ k. let w = f.within i k in let e = same i k in omega (arith, length-set places s None))
          (λ (e : i ≡ length free). let w : get_or (free ++ s ∷ []) i 0 ≡ s = rw e at_end in
          omega (arith, length-set places s None))
          (split i h);
      empty = λ i h. ⊎_elim
          (λ k. ap (λ n. slot_at (set places s None) n) (same i k)
          ∙ get_or-set_other places s (get_or free i 0) None None (other i k) ∙ f.empty i k)
          (λ (e : i ≡ length free). let w : get_or (free ++ s ∷ []) i 0 ≡ s = rw e at_end in
          ap (λ n. slot_at (set places s None) n) w ∙ get_or-set_same places s None None low)
          (split i h);
      apart = λ i j h k q.
          let before : i < length free = omega arith in
          ⊎_elim
          (λ (l : j < length free). f.apart i j h l (sym (same i before) ∙ q ∙ same j l))
          (λ (e : j ≡ length free). let w : get_or (free ++ s ∷ []) j 0 ≡ s = rw e at_end in
          other i before (sym (same i before) ∙ q ∙ w))
          (split j k);
    }

-- what is below a number that another equals is below that
pub below_both : (a b n count : ℕ) → a ≡ n → b ≡ count → n < count → a < b
below_both a b n count e f low = omega arith

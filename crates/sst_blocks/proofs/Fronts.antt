-- The front of a list that passes a test, found by binary search.
use Rattle.std.proofs.Common.{◌≡◌, ℕ, zero, suc, ◌+◌, ◌<◌, ◌≤◌, Bool, true, false, cond, List, []}
use Rattle.std.proofs.Common.{◌∷◌, length, get_or, Option, Some, None, refl, sym, ap, ◌∙◌, arith}
use Rattle.std.specs.List.{slice_get}
use Rattle.std.specs.Option.{option_map}
use Rattle.std.specs.List.Sorted.{IsPartitionedBy}
use Rattle.std.proofs.lemmas.Option.{none-some, same_Some, slice_get_within, get_or_from_slice_get}
use Rattle.sst_entries.specs.Span.{front_length}

-- of the item of a place what a search compares was read
pub record Probed {X : Type 0} (compared : X → List ℕ × ℕ) (xs : List X) (i : ℕ) (key : List ℕ)
    (n : ℕ) : Type 0 where
  pub item : X
  pub here : slice_get xs i ≡ Some item
  pub read : compared item ≡ (key, n)

module _ {X : Type 0} (compared : X → List ℕ × ℕ) (xs : List X) (i : ℕ) (key : List ℕ) (n : ℕ) where
  probed_of : (o : Option X) → slice_get xs i ≡ o → option_map compared o ≡ Some (key, n)
      → Probed compared xs i key n
  probed_of None there returned = absurd (none-some _ returned)
  probed_of (Some x) there returned = record {
    item = x;
    here = there;
    read =
        same_Some (compared x) (key, n) returned;
  }

  pub probed : option_map compared (slice_get xs i) ≡ Some (key, n) → Probed compared xs i key n
  probed returned = probed_of (slice_get xs i) refl returned

  -- a test of what was read is one of the item
  pub probed_test : (p : List ℕ → ℕ → Bool) (r b : Bool) (x : Probed compared xs i key n)
      → r ≡ p key n → r ≡ b → p (compared x.item).0 (compared x.item).1 ≡ b
  probed_test p r b x computed is = ap (λ (y : List ℕ × ℕ). p y.0 y.1) x.read ∙ sym computed ∙ is

module _ {X : Type 0} (p : X → Bool) where
  pub passes_below : (xs : List X) (n : ℕ) (x : X) → IsPartitionedBy p xs → slice_get xs n ≡ Some x
      → p x ≡ true → (i : ℕ) (y : X) → i < n + 1 → slice_get xs i ≡ Some y → p y ≡ true
  passes_below xs n x parted here passed i y le there =
      let at_n : p (get_or xs n x) ≡ true = ap p (get_or_from_slice_get xs n x x here) ∙ passed in
      ap p (sym (get_or_from_slice_get xs i y x there))
      ∙ parted i n x (omega (arith, le)) (slice_get_within xs n x here) at_n

  fails_at : (xs : List X) (x : X) → p x ≡ false → 0 ≡ front_length p (x ∷ xs)
  fails_at xs x failed = rw failed refl

  passes_at : (xs : List X) (x : X) (n : ℕ) → p x ≡ true → n ≡ front_length p xs
      → suc n ≡ front_length p (x ∷ xs)
  passes_at xs x n passed more = let one : suc n ≡ 1 + n = omega arith in
      rw passed (one ∙ ap (λ (k : ℕ). 1 + k) more)

  -- what is below a place passes, and what stands there does not
  pub front_found : (xs : List X) (n : ℕ) → n ≤ length xs
      → ((i : ℕ) (x : X) → i < n → slice_get xs i ≡ Some x → p x ≡ true)
      → ((x : X) → slice_get xs n ≡ Some x → p x ≡ false) → n ≡ front_length p xs
  front_found [] n le pass fail = omega (arith, le)
  front_found (x ∷ xs) zero le pass fail = fails_at xs x (fail x refl)
  front_found (x ∷ xs) (suc n) le pass fail =
      passes_at xs x n (pass 0 x (omega arith) refl)
      (front_found xs n (omega (arith, le)) (λ i y lt. pass (suc i) y (omega (arith, lt))) fail)

  front_within : (xs : List X) (x : X) (d : X) → ((i : ℕ) → i < front_length p xs
      → p (get_or xs i d) ≡ true) → (b : Bool) → p x ≡ b → (i : ℕ)
      → i < cond b (1 + front_length p xs) 0 → p (get_or (x ∷ xs) i d) ≡ true
  front_within xs x d more true here zero lt = here
  front_within xs x d more true here (suc i) lt = more i (omega (arith, lt))
  front_within xs x d more false here i lt = absurd (omega (arith, lt))

  pub front_passes : (xs : List X) (i : ℕ) (d : X) → i < front_length p xs
      → p (get_or xs i d) ≡ true
  front_passes [] i d lt = absurd (omega (arith, lt))
  front_passes (x ∷ xs) i d lt = front_within xs x d (λ k below. front_passes xs k d below)
      (p x) refl i lt

  front_end : (xs : List X) (x : X) (d : X) → (front_length p xs < length xs
      → p (get_or xs (front_length p xs) d) ≡ false) → (b : Bool) → p x ≡ b
      → cond b (1 + front_length p xs) 0 < length (x ∷ xs)
      → p (get_or (x ∷ xs) (cond b (1 + front_length p xs) 0) d) ≡ false
  front_end xs x d more true here lt =
      let e : 1 + front_length p xs ≡ suc (front_length p xs) = omega arith in
      rw e (more (omega (arith, lt)))
  front_end xs x d more false here lt = here

  pub front_stops : (xs : List X) (d : X) → front_length p xs < length xs
      → p (get_or xs (front_length p xs) d) ≡ false
  front_stops [] d lt = absurd (omega (arith, lt))
  front_stops (x ∷ xs) d lt = front_end xs x d (front_stops xs d) (p x) refl lt

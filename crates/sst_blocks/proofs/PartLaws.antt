-- The parts that a list is cut into, one item after another, are those of the list.
use Rattle.std.proofs.Common.{◌≡◌, refl, ◌∙◌, ap, sym, ℕ, ◌+◌, ◌<◌, ◌≤◌, Bool, true, false}
use Rattle.std.proofs.Common.{cond, List, [], ◌∷◌, ◌++◌, length, take, arith}
use Rattle.std.proofs.Common.{inl, inr, length-append}
use Rattle.std.proofs.lemmas.Bool.{cases_lt}
use Rattle.std.proofs.lemmas.List.{append-nil, take-append-le, take_all}
use Rattle.sst_blocks.specs.table.Parts.{joined_parts, IsPart, EndsPart, AreParts, ArePartsOf}
use Rattle.sst_blocks.specs.table.Parts.{rest_part}
use Rattle.sst_blocks.specs.table.Parts.{parts_after, parts_by}

pub joined_rest_part : {A : Type 0} (xs : List A) → joined_parts (rest_part xs) ≡ xs
joined_rest_part [] = refl
joined_rest_part (x ∷ xs) = append-nil (x ∷ xs)

assoc : {A : Type 0} (xs : List A) (y : A) (ys : List A) → (xs ++ y ∷ []) ++ ys ≡ xs ++ y ∷ ys
assoc [] y ys = refl
assoc (x ∷ xs) y ys = ap (λ zs. x ∷ zs) (assoc xs y ys)

whole_by : {A : Type 0} (b : Bool) (p xs : List A) (P Q : List (List A)) → joined_parts P ≡ xs
    → joined_parts Q ≡ p ++ xs → joined_parts (cond b (p ∷ P) Q) ≡ p ++ xs
whole_by true p xs P Q hp hq = ap (λ zs. p ++ zs) hp
whole_by false p xs P Q hp hq = hq

-- one after another they are the list
pub parts_joined : {A : Type 0} (full : List A → Bool) (w xs : List A)
    → joined_parts (parts_after full w xs) ≡ w ++ xs
unfolding parts_after
parts_joined full w [] = joined_rest_part w ∙ sym (append-nil w)
parts_joined full w (x ∷ xs) =
    let p = w ++ x ∷ [] in
    whole_by (full p) p xs (parts_after full [] xs) (parts_after full p xs)
    (parts_joined full [] xs) (parts_joined full p xs)
    ∙ assoc w x xs

-- the items that wait have no full front, and are not full themselves
abbrev IsWaiting : {A : Type 0} → (List A → Bool) → List A → Type 0
IsWaiting full w = (n : ℕ) → 0 < n → n ≤ length w → full (take n w) ≡ false

none_waits : {A : Type 0} (full : List A → Bool) → IsWaiting full []
none_waits full n pos le = absurd (omega (arith, pos, le))

-- with one item more, each shorter front is one of what waited
front_of_more : {A : Type 0} (full : List A → Bool) (w : List A) (x : A) → IsWaiting full w
    → (n : ℕ) → 0 < n → n < length (w ++ x ∷ []) → full (take n (w ++ x ∷ [])) ≡ false
front_of_more full w x h n pos lt =
    let len : length (w ++ x ∷ []) ≡ length w + 1 = length-append w (x ∷ []) in
    let le : n ≤ length w = omega (arith, lt, len) in
    ap full (take-append-le n w (x ∷ []) le) ∙ h n pos le

part_of_more : {A : Type 0} (full : List A → Bool) (w : List A) (x : A) → IsWaiting full w
    → IsPart full (w ++ x ∷ [])
part_of_more full w x h = record {
  some = let len : length (w ++ x ∷ []) ≡ length w + 1 = length-append w (x ∷ []) in
      omega (arith, len);
  shortest = front_of_more full w x h;
}

-- and where it is not full either, it waits too
waits_more : {A : Type 0} (full : List A → Bool) (w : List A) (x : A) → IsWaiting full w
    → full (w ++ x ∷ []) ≡ false → IsWaiting full (w ++ x ∷ [])
waits_more full w x h f n pos le =
    elim (cases_lt n (length (w ++ x ∷ []))) [
      | inl less ↦ front_of_more full w x h n pos less
      | inr more ↦ ap full (take_all n (w ++ x ∷ []) (omega (arith, more))) ∙ f
    ]

last_part : {A : Type 0} (full : List A → Bool) (w : List A) → IsWaiting full w
    → AreParts full (rest_part w)
last_part full [] h = tt
last_part full (x ∷ xs) h = (
  record {
    some = omega arith;
    shortest =
        λ n pos lt. h n pos (omega (arith, lt));
  },
  tt,
  tt,
)

ends_part : {A : Type 0} (full : List A → Bool) (p : List A) (ps : List (List A)) → full p ≡ true
    → EndsPart full p ps
ends_part full p [] f = tt
ends_part full p (q ∷ qs) f = f

parts_by_case : {A : Type 0} (full : List A → Bool) (p : List A) (b : Bool) (P Q : List (List A))
    → full p ≡ b → IsPart full p → AreParts full P → (full p ≡ false → AreParts full Q)
    → AreParts full (cond b (p ∷ P) Q)
parts_by_case full p true P Q f part hp hq = (part, ends_part full p P f, hp)
parts_by_case full p false P Q f part hp hq = hq f

are_parts_after : {A : Type 0} (full : List A → Bool) (w xs : List A) → IsWaiting full w
    → AreParts full (parts_after full w xs)
unfolding parts_after
are_parts_after full w [] h = last_part full w h
are_parts_after full w (x ∷ xs) h =
    let p = w ++ x ∷ [] in
    parts_by_case full p (full p) (parts_after full [] xs) (parts_after full p xs) refl
    (part_of_more full w x h)
    (are_parts_after full [] xs (none_waits full))
    (λ f. are_parts_after full p xs (waits_more full w x h f))

-- the parts of a list are those that it is cut into
pub are_parts_of : {A : Type 0} (full : List A → Bool) (xs : List A)
    → ArePartsOf full xs (parts_by full xs)
are_parts_of full xs = record {
  whole = parts_joined full [] xs;
  each = are_parts_after full [] xs (none_waits full);
}

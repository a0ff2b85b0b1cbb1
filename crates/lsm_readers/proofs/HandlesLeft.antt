-- What is left of the handles of a block, by the place of the next one.
use Rattle.std.proofs.Common.{◌≡◌, ℕ, zero, suc, ◌+◌, ◌<◌, ◌≤◌, List, [], ◌∷◌, length, drop}
use Rattle.std.proofs.Common.{refl, sym, ap, ◌∙◌, arith}
use Rattle.std.specs.Prelude.{Option, None, Some}
use Rattle.std.specs.List.{slice_get}
use Rattle.std.proofs.lemmas.List.{drop_all, drop_more}
use Rattle.sst_blocks.specs.Handle.{Handle}
use Rattle.lsm_readers.specs.Handles.{handles_ahead}

-- the first of what is left stands at the place
pub first_left : {X : Type 0} (xs : List X) (i : ℕ) → slice_get (drop i xs) 0 ≡ slice_get xs i
first_left [] zero = refl
first_left [] (suc i) = refl
first_left (x ∷ xs) zero = refl
first_left (x ∷ xs) (suc i) = first_left xs i

-- a list by its first
pub first_is : {X : Type 0} (xs : List X) (x : X) → slice_get xs 0 ≡ Some x → xs ≡ x ∷ drop 1 xs
first_is [] x is = absurd cc
first_is {X} (y ∷ ys) x is = let same : y ≡ x = cc in ap (λ (z : X). z ∷ ys) same

pub none_left : {X : Type 0} (xs : List X) → slice_get xs 0 ≡ None → xs ≡ []
none_left [] is = refl
none_left (y ∷ ys) is = absurd cc

-- nothing is left at a place where nothing stands
pub none_at : {X : Type 0} (xs : List X) (i : ℕ) → slice_get xs i ≡ None → drop i xs ≡ []
none_at [] i is = drop_all i [] (omega arith)
none_at (x ∷ xs) zero is = absurd cc
none_at (x ∷ xs) (suc i) is = none_at xs i is

-- no place is within a list of which nothing is left
pub none_within : {X : Type 0} (xs : List X) (i : ℕ) → drop i xs ≡ [] → length xs ≤ i
none_within [] i is = omega arith
none_within (x ∷ xs) zero is = absurd (let no : x ∷ xs ≡ [] = is in cc)
none_within (x ∷ xs) (suc i) is = omega (arith, none_within xs i is)

drop_one : {X : Type 0} (xs : List X) (i : ℕ) → i < length xs
    → drop (i + 1) xs ≡ drop 1 (drop i xs)
drop_one [] i within = absurd (omega (arith, within))
drop_one (x ∷ xs) i within = sym (ap (drop 1) (drop_more (x ∷ xs) i x within))

none_more : {X : Type 0} (xs : List X) (i : ℕ) → length xs ≤ i → drop i xs ≡ drop 1 (drop i xs)
none_more xs i far =
    let none = drop_all i xs far in
    none ∙ sym (ap (drop 1) none)

-- the next one is left out
pub passed : (block : Option (List Handle)) (i : ℕ)
    → i < length (handles_ahead 0 block)
    → handles_ahead (i + 1) block ≡ drop 1 (handles_ahead i block)
passed None i within = absurd (omega (arith, within))
passed (Some hs) i within = drop_one hs i within

-- where there is none nothing is left out
pub passed_none : (block : Option (List Handle)) (i : ℕ) → length (handles_ahead 0 block) ≤ i
    → handles_ahead i block ≡ drop 1 (handles_ahead i block)
passed_none None i far = refl
passed_none (Some hs) i far = none_more hs i far

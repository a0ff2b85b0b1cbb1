-- A list that grew at its end, part by part.
use Rattle.std.proofs.Common.{◌≡◌, ℕ, ◌+◌, ◌<◌, ◌≤◌, List, [], ◌∷◌, ◌++◌, length, get_or, take, sym}
use Rattle.std.proofs.Common.{ap, subst, ◌∙◌, append_assoc, arith}
use Rattle.std.specs.List.{flat_map, sum_by, AllByRecursion}
use Rattle.std.proofs.lemmas.List.{take_at, take_all, take_more, append-nil, flat_map_more}
use Rattle.std.proofs.lemmas.List.Sums.{sum_by-append, sum_by-cons}
use Rattle.sst_blocks.specs.Bounds.{capped}
use Rattle.sst_blocks.proofs.Faults.{all_push}

-- the second list is the first and what was written behind it
pub record Grown (old new : List ℕ) : Type 0 where
  pub written : List ℕ
  pub is : new ≡ old ++ written

pub none : {old new : List ℕ} → new ≡ old → Grown old new
none {old} e = record { written = []; is = e ∙ sym (append-nil old) }

pub first : {old new : List ℕ} (part : List ℕ) → new ≡ old ++ part → Grown old new
first part e = record { written = part; is = e }

pub then : {old new next : List ℕ} (part : List ℕ) → Grown old new → next ≡ new ++ part
    → Grown old next
then {old} part grown e = record {
  written = grown.written ++ part;
  is = e
      ∙ ap (λ (front : List ℕ). front ++ part) grown.is ∙ append_assoc old grown.written part;
}

pub same : {old new next : List ℕ} → Grown old new → next ≡ new → Grown old next
same grown e = record { written = grown.written; is = e ∙ grown.is }

-- what was there stays at the front
pub front : {old new : List ℕ} {n : ℕ} → n ≡ length old → Grown old new → take n new ≡ old
front {old} {new} {n} len grown = ap (take n) grown.is ∙ take_at old grown.written n (sym len)

-- ---- a count, and then items in order

pub none_yet : (old now count : List ℕ) → now ≡ old ++ count → now ≡ old ++ (count ++ [])
none_yet old now count e = e ∙ ap (λ (part : List ℕ). old ++ part) (sym (append-nil count))

module _ {X : Type 0} where
  up_to : (xs : List X) (i : ℕ) (x : X) → i < length xs → x ≡ get_or xs i x
      → take (i + 1) xs ≡ take i xs ++ x ∷ []
  up_to xs i x lt is = take_more xs i x lt ∙ ap (λ (y : X). take i xs ++ y ∷ []) (sym is)

  pub one_more : (f : X → List ℕ) (old count now next : List ℕ) (xs : List X) (i : ℕ) (x : X)
      → i < length xs → x ≡ get_or xs i x → now ≡ old ++ (count ++ flat_map f (take i xs))
      → next ≡ now ++ f x
      → next ≡ old ++ (count ++ flat_map f (take (i + 1) xs))
  one_more f old count now next xs i x lt is written e =
      e ∙ ap (λ (front : List ℕ). front ++ f x) written
      ∙ append_assoc old (count ++ flat_map f (take i xs)) (f x)
      ∙ ap (λ (part : List ℕ). old ++ part) (flat_map_more f count (take i xs) x)
      ∙ ap (λ (ys : List X). old ++ (count ++ flat_map f ys)) (sym (up_to xs i x lt is))

  pub one_more_fits : (P : X → Type 0) (xs : List X) (i : ℕ) (x : X) → i < length xs
      → x ≡ get_or xs i x → AllByRecursion P (take i xs) → P x → AllByRecursion P (take (i + 1) xs)
  one_more_fits P xs i x lt is fit here = subst (AllByRecursion P) (sym (up_to xs i x lt is))
      (all_push P (take i xs) x fit here)

  pub all_fit : (P : X → Type 0) (xs : List X) (i : ℕ) → length xs ≤ i
      → AllByRecursion P (take i xs) → AllByRecursion P xs
  all_fit P xs i le fit = subst (AllByRecursion P) (take_all i xs le) fit

  -- a sum that stays at its largest value, with one more summand
  pub one_more_summed : (f : X → ℕ) (start : ℕ) (xs : List X) (i : ℕ) (x : X) (n m : ℕ)
      → i < length xs → x ≡ get_or xs i x → n ≡ capped (start + sum_by f (take i xs))
      → m ≡ capped (n + f x)
      → m ≡ capped (start + sum_by f (take (i + 1) xs))
  one_more_summed f start xs i x n m lt is sum more =
      let whole : sum_by f (take (i + 1) xs) ≡ sum_by f (take i xs) + f x =
      ap (sum_by f) (up_to xs i x lt is) ∙ omega (
        arith,
        sum_by-append f (take i xs)
            (x ∷ []),
        sum_by-cons f x [],
      ) in
      omega (arith, sum, more, whole)

  pub all_summed : (f : X → ℕ) (start : ℕ) (xs : List X) (i n : ℕ) → length xs ≤ i
      → n ≡ capped (start + sum_by f (take i xs)) → n ≡ capped (start + sum_by f xs)
  all_summed f start xs i n le sum = sum ∙ ap (λ (ys : List X). capped (start + sum_by f ys))
      (take_all i xs le)

-- What encoding a list of items refuses, found from the left, and how long the payload of a list
-- without a fault is.
use Rattle.std.proofs.Common.{◌≡◌, ℕ, zero, suc, ◌+◌, ◌^◌, ◌<◌, ◌≤◌, Bool, true, false, cond, leb}
use Rattle.std.proofs.Common.{List, [], ◌∷◌, ◌++◌, length, get_or, drop, take, Option, Some, None}
use Rattle.std.proofs.Common.{refl, sym, ap, subst, ◌∙◌, arith}
use Rattle.std.specs.Prelude.{Result, Ok, Err, OnOk}
use Rattle.std.specs.Option.{option_or}
use Rattle.std.specs.Result.{IsErrAnd}
use Rattle.sst_entries.specs.Error.{Refuses}
use Rattle.std.specs.List.{flat_map, sum_by, AllByRecursion}
use Rattle.std.proofs.lemmas.List.{drop_more, drop_all, length-append, take-take, take_at}
use Rattle.std.proofs.lemmas.List.Sums.{sum_by-cons}
use Rattle.sst_entries.specs.declared.error.Error.{Error}
use Rattle.sst_entries.specs.declared.error.Error.TheVariants.{BlockTooLarge}
use Rattle.sst_blocks.specs.Number.{le4}
use Rattle.sst_blocks.specs.Bounds.{bound_of}
use Rattle.sst_blocks.specs.Encoding.{first_fault, items_fault, large_fault}
use Rattle.sst_blocks.specs.Payload.{items_payload}
use Rattle.sst_blocks.proofs.Numbers.{wide4}

lt-leb : (a b : ℕ) → a < b → leb b a ≡ false
lt-leb a b lt = grind arith

le-leb : (a b : ℕ) → a ≤ b → leb a b ≡ true
le-leb a b le = grind arith

module _ {X : Type 0} (fault_or : X → Option Error → Option Error) (bound : X → ℕ) where
  split_at : (xs : List X) (i : ℕ) (x : X) → i < length xs → x ≡ get_or xs i x
      → drop i xs ≡ x ∷ drop (i + 1) xs
  split_at xs i x lt is = drop_more xs i x lt ∙ ap (λ (y : X). y ∷ drop (i + 1) xs) (sym is)

  pub fault_at : (xs : List X) (i : ℕ) (x : X) (e : Error)
      → first_fault fault_or xs ≡ first_fault fault_or (drop i xs) → i < length xs
      → x ≡ get_or xs i x
      → ((later : Option Error) → fault_or x later ≡ Some e)
      → items_fault fault_or bound xs ≡ Some e
  fault_at xs i x e fine lt is returned =
      let here : first_fault fault_or xs ≡ Some e = fine
      ∙ ap (first_fault fault_or) (split_at xs i x lt is)
      ∙ returned (first_fault fault_or (drop (i + 1) xs)) in
      ap (λ (o : Option Error). option_or o (large_fault (bound_of bound xs))) here

  pub no_fault_at : (xs : List X) (i : ℕ) (x : X)
      → first_fault fault_or xs ≡ first_fault fault_or (drop i xs) → i < length xs
      → x ≡ get_or xs i x
      → ((later : Option Error) → fault_or x later ≡ later)
      → first_fault fault_or xs ≡ first_fault fault_or (drop (i + 1) xs)
  no_fault_at xs i x fine lt is none = fine ∙ ap (first_fault fault_or) (split_at xs i x lt is)
      ∙ none (first_fault fault_or (drop (i + 1) xs))

  none_left : (xs : List X) (i : ℕ) → first_fault fault_or xs ≡ first_fault fault_or (drop i xs)
      → length xs ≤ i → first_fault fault_or xs ≡ None
  none_left xs i fine le = fine ∙ ap (first_fault fault_or) (drop_all i xs le)

  pub too_large : (xs : List X) (i : ℕ) → first_fault fault_or xs ≡ first_fault fault_or (drop i xs)
      → length xs ≤ i → 2 ^ 32 ≤ bound_of bound xs
      → items_fault fault_or bound xs ≡ Some BlockTooLarge
  too_large xs i fine le large =
      let k : leb (2 ^ 32) (bound_of bound xs) ≡ true = le-leb _ _ large in
      ap (λ (o : Option Error). option_or o (large_fault (bound_of bound xs)))
      (none_left xs i fine le) ∙ ap (λ (b : Bool). cond b (Some BlockTooLarge) None) k

  pub no_fault : (xs : List X) (i : ℕ) → first_fault fault_or xs ≡ first_fault fault_or (drop i xs)
      → length xs ≤ i → bound_of bound xs < 2 ^ 32 → items_fault fault_or bound xs ≡ None
  no_fault xs i fine le small =
      let k : leb (2 ^ 32) (bound_of bound xs) ≡ false = lt-leb _ _ small in
      ap (λ (o : Option Error). option_or o (large_fault (bound_of bound xs)))
      (none_left xs i fine le) ∙ ap (λ (b : Bool). cond b (Some BlockTooLarge) None) k

-- ---- lengths

module _ {X : Type 0} (spell : X → List ℕ) (bound : X → ℕ)
    (takes : (x : X) → (length (spell x) ≡ bound x) × (0 < bound x)) where
  spelled_sum : (xs : List X) → length (flat_map spell xs) ≡ sum_by bound xs
  spelled_sum [] = refl
  spelled_sum (x ∷ xs) = omega (
    arith,
    length-append (spell x) (flat_map spell xs),
    (takes x).0,
    spelled_sum xs,
    sum_by-cons bound x xs,
  )

  count_sum : (xs : List X) → length xs ≤ sum_by bound xs
  count_sum [] = omega arith
  count_sum (x ∷ xs) = omega (arith, (takes x).1, count_sum xs, sum_by-cons bound x xs)

  -- a block that has room has few items, and its bound is its length
  pub few : (xs : List X) → bound_of bound xs < 2 ^ 32 → length xs < 2 ^ 32
  few xs small = omega (arith, count_sum xs)

  pub bound_is : (xs : List X) → bound_of bound xs < 2 ^ 32
      → 24 + length (items_payload spell xs) ≡ bound_of bound xs
  bound_is xs small = omega (
    arith,
    length-append (le4 (length xs)) (flat_map spell xs),
    wide4.len
        (length xs),
    spelled_sum xs,
  )

-- ---- parts of lists

all_at : {X : Type 0} (P : X → Type 0) (xs : List X) (i : ℕ) (d : X) → AllByRecursion P xs
    → i < length xs → P (get_or xs i d)
all_at P [] i d h lt = absurd (omega (arith, lt))
all_at P (x ∷ xs) zero d h lt = h.0
all_at P (x ∷ xs) (suc i) d h lt = all_at P xs i d h.1 (omega (arith, lt))

pub all_here : {X : Type 0} (P : X → Type 0) (xs : List X) (i : ℕ) (x : X) → AllByRecursion P xs
    → i < length xs → x ≡ get_or xs i x → P x
all_here P xs i x h lt is = subst P (sym is) (all_at P xs i x h lt)

pub all_push : {X : Type 0} (P : X → Type 0) (xs : List X) (x : X) → AllByRecursion P xs → P x
    → AllByRecursion P (xs ++ x ∷ [])
all_push P [] x h p = (p, tt)
all_push P (y ∷ xs) x h p = (h.0, all_push P xs x h.1 p)

-- the front of a front
pub front_again : (n m : ℕ) (a x b c : List ℕ) → length a ≡ n → length b ≡ m → b ≡ a ++ x
    → take m c ≡ b → take n c ≡ a
front_again n m a x b c la lb eb ec =
    let le : n ≤ m = omega (arith, ap length eb, length-append a x) in
    sym (take-take n m c le) ∙ ap (take n) (ec ∙ eb) ∙ take_at a x n la

-- a fault that is passed on is refused with
pub passed_on : {X : Type 0} (r : Result X Error) (e : Error) (returned : Option Error)
    → IsErrAnd r (λ y. y ≡ e) → returned ≡ Some e → Refuses r returned
passed_on (Ok x) e returned is said = absurd is
passed_on (Err y) e returned is said = said ∙ ap (λ z. Some z) (sym is)

-- what holds on success may be said in other words
pub on_ok : {X E : Type 0} (P Q : Type 0) (r : Result X E) → OnOk r P → (P → Q) → OnOk r Q
on_ok P Q (Ok x) holds more = more holds
on_ok P Q (Err e) holds more = tt

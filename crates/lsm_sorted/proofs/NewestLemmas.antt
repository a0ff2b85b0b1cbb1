-- The steps of `MvccStream` over sorted entries are those of dealing the newest versions.
use Rattle.std.proofs.Common.{◌≡◌, refl, sym, ◌∙◌, ap, subst, ℕ, Bool, true, false, cond, List, []}
use Rattle.std.proofs.Common.{◌∷◌, ◌++◌, reverse}
use Rattle.std.specs.Prelude.{Option, Some, None, Ok, not, filter}
use Rattle.std.specs.List.{AllByRecursion}
use Rattle.std.proofs.lemmas.List.{reverse-reverse, reverse-append, append-nil}
use Rattle.sst_entries.specs.Entry.{Entry}
use Rattle.sst_entries.specs.Stream.{first, but_first, last, but_last, ok_results}
use Rattle.lsm_sorted.specs.merge.Ends.{R}
use Rattle.lsm_sorted.specs.Newest.{after_key, settle, front_step, climb, step_in_reverse}
use Rattle.lsm_sorted.specs.Newest.{back_step}
use Rattle.sst_entries.specs.Key.{same_key, key_lt}
use Rattle.sst_entries.proofs.KeyLemmas.{KeyLe, same_is, lt_other, le_other, le_same, lt_le, le_lt}
use Rattle.lsm_sorted.proofs.EntryKeyLemmas.{key_le}
use Rattle.lsm_sorted.specs.merge.Union.{AtMost, Ascends, newest}
use Rattle.sst_entries.proofs.Lists.{all_more, all_append}
use Rattle.sst_entries.proofs.StreamLemmas.{map_reverse}

-- no key is below an earlier one
abbrev pub KeysUp : List Entry → Type 0
KeysUp [] = Unit {0}
KeysUp (x ∷ xs) = AllByRecursion (λ y. KeyLe x.user_key y.user_key) xs × KeysUp xs

pub keys_up : (xs : List Entry) → Ascends xs → KeysUp xs
keys_up [] h = tt
keys_up (x ∷ xs) h = (
  all_more (AtMost x) (λ y. KeyLe x.user_key y.user_key)
      (key_le x) xs h.0,
  keys_up xs h.1,
)

abbrev not_of : List ℕ → Entry → Bool
not_of k y = not (same_key y.user_key k)

-- the entries after the first stretch of this key
abbrev skip : List ℕ → List Entry → List Entry
skip k [] = []
skip k (x ∷ xs) = cond (same_key x.user_key k) (skip k xs) (x ∷ xs)

after_ok : (k : List ℕ) (xs : List Entry) → after_key k (ok_results xs) ≡ ok_results (skip k xs)
after_ok k [] = refl
after_ok k (x ∷ xs) = elim (same_key x.user_key k) as
    (λ b. cond b (after_key k (ok_results xs)) (Ok x ∷ ok_results xs)
    ≡ ok_results (cond b (skip k xs) (x ∷ xs))) [ true ↦ after_ok k xs | false ↦ refl ]

settle_ok : (x : Entry) (ys : List Entry) → settle x (ok_results ys) ≡ (Some (Ok x), ok_results ys)
settle_ok x [] = refl
settle_ok x (y ∷ ys) = refl

pub filter_keeps : (P : Entry → Type 0) (p : Entry → Bool) (xs : List Entry) → AllByRecursion P xs
    → AllByRecursion P (filter p xs)
filter_keeps P p [] h = tt
filter_keeps P p (x ∷ xs) h = elim (p x) as (λ b. AllByRecursion P
    (cond b (x ∷ filter p xs) (filter p xs))) [
      | true ↦ (h.0, filter_keeps P p xs h.1)
      | false ↦
          filter_keeps P p xs h.1
    ]

pub newest_keeps : (P : Entry → Type 0) (xs : List Entry) → AllByRecursion P xs
    → AllByRecursion P (newest xs)
newest_keeps P [] h = tt
newest_keeps P (x ∷ xs) h = (
  h.0,
  filter_keeps P (not_of x.user_key) (newest xs)
      (newest_keeps P xs h.1),
)

filter_above : (k : List ℕ) (xs : List Entry) → AllByRecursion (λ y. key_lt k y.user_key ≡ true) xs
    → filter (not_of k) xs ≡ xs
filter_above k [] h = refl
filter_above k (x ∷ xs) h =
    let no : same_key x.user_key k ≡ false = lt_other k x.user_key h.0 in
    ap (λ (b : Bool). cond (not b) (x ∷ filter (not_of k) xs) (filter (not_of k) xs)) no
    ∙ ap (λ (ys : List Entry). x ∷ ys) (filter_above k xs h.1)

filter_twice : (p : Entry → Bool) (xs : List Entry) → filter p (filter p xs) ≡ filter p xs
filter_twice p [] = refl
filter_twice p (x ∷ xs) =
    elim (p x) as (λ b. p x ≡ b → filter p (cond b (x ∷ filter p xs) (filter p xs))
    ≡ cond b (x ∷ filter p xs) (filter p xs)) [
      | true ↦ λ e. ap (λ (b : Bool). cond b (x ∷ filter p (filter p xs)) (filter p (filter p xs)))
          e ∙ ap (λ (ys : List Entry). x ∷ ys) (filter_twice p xs)
      | false ↦ λ e. filter_twice p xs
    ] refl

newest_skip : (k : List ℕ) (xs : List Entry) → KeysUp xs
    → AllByRecursion (λ y. KeyLe k y.user_key) xs
    → filter (not_of k) (newest xs) ≡ newest (skip k xs)
newest_skip k [] up over = refl
newest_skip k (x ∷ xs) up over =
    let rest : List Entry = filter (not_of x.user_key) (newest xs) in
    elim (same_key x.user_key k) as (λ b. (same_key x.user_key k) ≡ b
    → cond (not b) (x ∷ filter (not_of k) (filter (not_of x.user_key) (newest xs)))
    (filter (not_of k) (filter (not_of x.user_key) (newest xs)))
    ≡ newest (cond b (skip k xs) (x ∷ xs))) [
      | true ↦ λ e.
          let same : x.user_key ≡ k = same_is x.user_key k e in
          let over' : AllByRecursion (λ y. KeyLe k y.user_key) xs = over.1 in
          subst (λ (j : List ℕ). filter (not_of k) (filter (not_of j) (newest xs))
          ≡ filter (not_of k) (newest xs)) (sym same) (filter_twice (not_of k) (newest xs))
          ∙ newest_skip k xs up.1 over'
      | false ↦ λ e.
          let under : key_lt k x.user_key ≡ true = le_other k x.user_key over.0 e in
          let all : AllByRecursion (λ y. key_lt k y.user_key ≡ true) xs =
          all_more (λ y. KeyLe x.user_key y.user_key) (λ y. key_lt k y.user_key ≡ true)
          (λ y h. lt_le k x.user_key y.user_key under h) xs up.0 in
          ap (λ (ys : List Entry). x ∷ ys) (filter_above k (filter (not_of x.user_key) (newest xs))
          (filter_keeps (λ y. key_lt k y.user_key ≡ true) (not_of x.user_key) (newest xs)
          (newest_keeps (λ y. key_lt k y.user_key ≡ true) xs all)))
    ] refl

skip_up : (k : List ℕ) (xs : List Entry) → KeysUp xs → KeysUp (skip k xs)
skip_up k [] h = tt
skip_up k (x ∷ xs) h = elim (same_key x.user_key k) as
    (λ b. KeysUp (cond b (skip k xs) (x ∷ xs))) [ true ↦ skip_up k xs h.1 | false ↦ h ]

-- what a step at either end does
pub record NewestStep (stepped : Option R × List R) (answer : Option R)
    (others : List R) : Type 0 where
  pub left : List Entry
  pub up : KeysUp left
  pub answers : stepped.0 ≡ answer
  pub leaves : stepped.1 ≡ ok_results left
  pub yielded : others ≡ ok_results (newest left)

pub front_newest : (xs : List Entry) → KeysUp xs
    → NewestStep (front_step (ok_results xs)) (first (ok_results (newest xs)))
    (but_first (ok_results (newest xs)))
front_newest [] up = record { left = []; up = tt; answers = refl; leaves = refl; yielded = refl }
front_newest (x ∷ xs) up =
    let step : front_step (ok_results (x ∷ xs)) ≡ (Some (Ok x), ok_results (skip x.user_key xs)) =
    ap (settle x) (after_ok x.user_key xs) ∙ settle_ok x (skip x.user_key xs) in
    record {
      left = skip x.user_key xs;
      up = skip_up x.user_key xs up.1;
      answers = ap (λ (p : Option R × List R). p.0) step;
      leaves = ap (λ (p : Option R × List R). p.1) step;
      yielded = ap ok_results (newest_skip x.user_key xs up.1 up.0);
    }

-- ---- the back

abbrev descend : Entry → List Entry → Entry × List Entry
descend x [] = (x, [])
descend x (y ∷ ys) = cond (key_lt y.user_key x.user_key) (x, y ∷ ys) (descend y ys)

climb_ok : (x : Entry) (zs : List Entry) → climb x (ok_results zs)
    ≡ ((descend x zs).0, ok_results (descend x zs).1)
climb_ok x [] = refl
climb_ok x (y ∷ ys) = elim (key_lt y.user_key x.user_key) as
    (λ b. cond b (x, Ok y ∷ ok_results ys) (climb y (ok_results ys))
    ≡ ((cond b (x, y ∷ ys) (descend y ys)).0, ok_results (cond b (x, y ∷ ys) (descend y ys)).1))
    [ true ↦ refl | false ↦ climb_ok y ys ]

-- the newest versions, last first, of entries that are given last first
abbrev down_from : Entry → List Entry → List Entry
down_from x [] = x ∷ []
down_from x (y ∷ ys) = cond (key_lt y.user_key x.user_key) (x ∷ down_from y ys) (down_from y ys)

abbrev down : List Entry → List Entry
down [] = []
down (x ∷ zs) = down_from x zs

down_step : (x : Entry) (zs : List Entry) → down_from x zs ≡ (descend x zs).0
    ∷ down (descend x zs).1
down_step x [] = refl
down_step x (y ∷ ys) = elim (key_lt y.user_key x.user_key) as
    (λ b. cond b (x ∷ down_from y ys) (down_from y ys) ≡ (cond b (x, y ∷ ys) (descend y ys)).0
    ∷ down (cond b (x, y ∷ ys) (descend y ys)).1) [ true ↦ refl | false ↦ down_step y ys ]

filter_append : (p : Entry → Bool) (xs ys : List Entry)
    → filter p (xs ++ ys) ≡ filter p xs ++ filter p ys
filter_append p [] ys = refl
filter_append p (x ∷ xs) ys = elim (p x) as (λ b. cond b (x ∷ filter p (xs ++ ys))
    (filter p (xs ++ ys)) ≡ cond b (x ∷ filter p xs) (filter p xs) ++ filter p ys) [
      | true ↦ ap (λ (zs : List Entry). x ∷ zs) (filter_append p xs ys)
      | false ↦
          filter_append p xs ys
    ]

filter_reverse : (p : Entry → Bool) (xs : List Entry)
    → reverse (filter p xs) ≡ filter p (reverse xs)
filter_reverse p [] = refl
filter_reverse p (x ∷ xs) =
    let whole : reverse (x ∷ xs) ≡ reverse xs ++ x ∷ [] = reverse-append (x ∷ []) xs in
    elim (p x) as (λ b. p x ≡ b → reverse (cond b (x ∷ filter p xs) (filter p xs))
    ≡ filter p (reverse (x ∷ xs))) [
      | true ↦ λ e. reverse-append (x ∷ []) (filter p xs)
          ∙ ap (λ (zs : List Entry). zs ++ x ∷ []) (filter_reverse p xs)
          ∙ sym (ap (filter p) whole ∙ filter_append p (reverse xs) (x ∷ [])
          ∙ ap (λ (b : Bool). filter p (reverse xs) ++ cond b (x ∷ []) []) e)
      | false ↦ λ e. filter_reverse p xs ∙ sym (ap (filter p) whole
          ∙ filter_append p (reverse xs) (x ∷ []) ∙ ap
          (λ (b : Bool). filter p (reverse xs) ++ cond b (x ∷ []) []) e
          ∙ append-nil (filter p (reverse xs)))
    ] refl

down_from_more : (x z : Entry) (ys : List Entry) → KeyLe x.user_key z.user_key
    → AllByRecursion (λ y. KeyLe x.user_key y.user_key) ys
    → down_from z (ys ++ x ∷ []) ≡ filter (not_of x.user_key) (down_from z ys) ++ x ∷ []
down_from_more x z [] le over =
    elim (key_lt x.user_key z.user_key) as (λ b. key_lt x.user_key z.user_key ≡ b
    → cond b (z ∷ x ∷ []) (x ∷ []) ≡ cond (not (same_key z.user_key x.user_key)) (z ∷ []) []
    ++ x ∷ []) [
      | true ↦ λ e. let no : same_key z.user_key x.user_key ≡ false =
          lt_other x.user_key z.user_key e in sym (ap
          (λ (b : Bool). cond (not b) (z ∷ []) [] ++ x ∷ []) no)
      | false ↦ λ e. let yes : same_key z.user_key x.user_key ≡ true =
          le_same x.user_key z.user_key le e in sym
          (ap (λ (b : Bool). cond (not b) (z ∷ []) [] ++ x ∷ []) yes)
    ] refl
down_from_more x z (y ∷ ys) le over =
    let more = down_from_more x y ys over.0 over.1 in
    elim (key_lt y.user_key z.user_key) as (λ b. key_lt y.user_key z.user_key ≡ b
    → cond b (z ∷ down_from y (ys ++ x ∷ [])) (down_from y (ys ++ x ∷ []))
    ≡ filter (not_of x.user_key) (cond b (z ∷ down_from y ys) (down_from y ys)) ++ x ∷ []) [
      | true ↦ λ e. let no : same_key z.user_key x.user_key ≡ false =
          lt_other x.user_key z.user_key (le_lt x.user_key y.user_key z.user_key over.0 e) in
          ap (λ (zs : List Entry). z ∷ zs) more ∙ sym
          (ap (λ (b : Bool). cond (not b) (z ∷ filter (not_of x.user_key) (down_from y ys))
          (filter (not_of x.user_key) (down_from y ys)) ++ x ∷ []) no)
      | false ↦ λ e. more
    ] refl

down_more : (x : Entry) (zs : List Entry) → AllByRecursion (λ y. KeyLe x.user_key y.user_key) zs
    → down (zs ++ x ∷ []) ≡ filter (not_of x.user_key) (down zs) ++ x ∷ []
down_more x [] h = refl
down_more x (z ∷ zs) h = down_from_more x z zs h.0 h.1

all_reverse : (P : Entry → Type 0) (xs : List Entry) → AllByRecursion P xs
    → AllByRecursion P (reverse xs)
all_reverse P [] h = tt
all_reverse P (x ∷ xs) h = subst (AllByRecursion P) (sym (reverse-append (x ∷ []) xs))
    (all_append P (reverse xs) (x ∷ []) (all_reverse P xs h.1) (h.0, tt))

down_newest : (xs : List Entry) → KeysUp xs → reverse (newest xs) ≡ down (reverse xs)
down_newest [] h = refl
down_newest (x ∷ xs) h =
    reverse-append (x ∷ []) (filter (not_of x.user_key) (newest xs))
    ∙ ap (λ (zs : List Entry). zs ++ x ∷ []) (filter_reverse (not_of x.user_key) (newest xs)
    ∙ ap (filter (not_of x.user_key)) (down_newest xs h.1))
    ∙ sym (ap down (reverse-append (x ∷ []) xs) ∙ down_more x (reverse xs)
    (all_reverse (λ y. KeyLe x.user_key y.user_key) xs h.0))

up_front : (xs ys : List Entry) → KeysUp (xs ++ ys) → KeysUp xs
up_front [] ys h = tt
up_front (x ∷ xs) ys h = (
  all_front (λ y. KeyLe x.user_key y.user_key) xs ys h.0,
  up_front xs ys
      h.1,
)
  where
    all_front : (P : Entry → Type 0) (xs ys : List Entry) → AllByRecursion P (xs ++ ys)
        → AllByRecursion P xs
    all_front P [] ys h = tt
    all_front P (x ∷ xs) ys h = (h.0, all_front P xs ys h.1)

-- what is left at the back of a list in reverse
descend_end : (x : Entry) (zs : List Entry) → (front : List Entry)
    × (x ∷ zs ≡ front ++ (descend x zs).1)
descend_end x [] = (x ∷ [], refl)
descend_end x (y ∷ ys) =
    elim (key_lt y.user_key x.user_key) as (λ b. (front : List Entry)
    × (x ∷ y ∷ ys ≡ front ++ (cond b (x, y ∷ ys) (descend y ys)).1)) [
      | true ↦ (x ∷ [], refl)
      | false ↦ let more = descend_end y ys in (x ∷ more.0, ap (λ (zs : List Entry). x ∷ zs) more.1)
    ]

back_at : (xs : List Entry) (zs : List Entry) → reverse xs ≡ zs → KeysUp xs
    → NewestStep (back_step (ok_results xs)) (last (ok_results (newest xs)))
    (but_last (ok_results (newest xs)))
back_at xs [] e up =
    let empty : step_in_reverse (reverse (ok_results xs)) ≡ (None, []) =
    ap step_in_reverse (map_reverse xs ∙ ap ok_results e) in
    let yielded : reverse (ok_results (newest xs)) ≡ [] = map_reverse (newest xs)
    ∙ ap ok_results (down_newest xs up ∙ ap down e) in
    record {
      left = [];
      up = tt;
      answers = ap (λ (p : Option R × List R). p.0) empty ∙ sym (ap first yielded);
      leaves = ap (λ (p : Option R × List R). reverse p.1) empty;
      yielded = ap (λ (ys : List R). reverse (but_first ys)) yielded;
    }
back_at xs (z ∷ zs) e up =
    let top : Entry = (descend z zs).0 in
    let rest : List Entry = (descend z zs).1 in
    let stepped : step_in_reverse (reverse (ok_results xs)) ≡ (Some (Ok top), ok_results rest) =
    ap step_in_reverse (map_reverse xs ∙ ap ok_results e)
    ∙ ap (λ (p : Entry × List R). settle p.0 p.1) (climb_ok z zs) ∙ settle_ok top rest in
    let yielded : reverse (ok_results (newest xs)) ≡ Ok top ∷ ok_results (down rest) =
    map_reverse (newest xs) ∙ ap ok_results (down_newest xs up ∙ ap down e ∙ down_step z zs) in
    let parts = descend_end z zs in
    let whole : xs ≡ reverse rest ++ reverse parts.0 =
    sym (reverse-reverse xs) ∙ ap reverse (e ∙ parts.1) ∙ reverse-append parts.0 rest in
    let up' : KeysUp (reverse rest) = up_front (reverse rest) (reverse parts.0)
    (subst KeysUp whole up) in
    let same : down rest ≡ reverse (newest (reverse rest)) = ap down (sym (reverse-reverse rest))
    ∙ sym (down_newest (reverse rest) up') in
    record {
      left = reverse rest;
      up = up';
      answers = ap (λ (p : Option R × List R). p.0) stepped ∙ sym (ap first yielded);
      leaves = ap (λ (p : Option R × List R). reverse p.1) stepped ∙ map_reverse rest;
      yielded = ap (λ (ys : List R). reverse (but_first ys)) yielded ∙ map_reverse (down rest)
          ∙ ap ok_results (ap reverse same ∙ reverse-reverse (newest (reverse rest)));
    }

pub back_newest : (xs : List Entry) → KeysUp xs
    → NewestStep (back_step (ok_results xs)) (last (ok_results (newest xs)))
    (but_last (ok_results (newest xs)))
back_newest xs up = back_at xs (reverse xs) refl up

-- Lists that are shared one by one.
use Rattle.std.proofs.Common.{◌≡◌, refl, sym, ◌∙◌, ap, subst, ℕ, ◌+◌, ◌<◌, true, false, List, []}
use Rattle.std.proofs.Common.{◌∷◌, ◌++◌, append-nil, append_assoc, get_or, length, take}
use Rattle.std.specs.Prelude.{◌&&◌, map, Result, Ok}
use Rattle.std.specs.Vec.Iter.{into_iter_items, into_iter_steps, into_iter_steps_back}
use Rattle.std.specs.declared.ops.Bound.{Bound}
use Rattle.std.specs.declared.vec.IntoIter.{IntoIter}
use Rattle.std.proofs.lemmas.List.{map-append, take_more}
use Rattle.std.proofs.lemmas.List.Elements.{filter-append}
use Rattle.lsm_tables.specs.Words.{YieldsExactly, YieldsList, Entry, Error, answer_stops, is_from, is_to}
use Rattle.lsm_tables.specs.Words.{ok_results, within}
use Rattle.lsm_tables.proofs.TableLaws.{map_append, vec_yields}

pub shared_more : {Y : Type 0} (shared made : List Y) (y : Y) (before rest all : List Y)
    → made ≡ shared ++ y ∷ [] → before ≡ y ∷ rest → shared ++ before ≡ all → made ++ rest ≡ all
shared_more {Y} shared made y before rest all is next so_far =
    ap (λ (ys : List Y). ys ++ rest) is
    ∙ append_assoc shared (y ∷ []) rest
    ∙ ap (λ (ys : List Y). shared ++ ys) (sym next)
    ∙ so_far

pub shared_all : {X Y : Type 0} (f : X → Y) (shared : List X) (rest all : List Y) → rest ≡ []
    → map f shared ++ rest ≡ all → map f shared ≡ all
shared_all {X} {Y} f shared rest all none so_far = sym (append-nil (map f shared))
    ∙ ap (λ (ys : List Y). map f shared ++ ys) (sym none) ∙ so_far

-- ---- one more item, made of the next element

module _ {X : Type 0} (xs : List X) (i : ℕ) (x : X) (less : i < length xs)
    (is : x ≡ get_or xs i x) where
  pub one_taken : (made : List X) (y : X) → y ≡ x → made ≡ take i xs
      → made ++ y ∷ [] ≡ take (i + 1) xs
  one_taken made y same so_far =
      ap (λ (ys : List X). ys ++ y ∷ []) so_far
      ∙ ap (λ (z : X). take i xs ++ z ∷ []) (same ∙ is)
      ∙ sym (take_more xs i x less)

  pub one_mapped : {Y : Type 0} (f : X → Y) (made : List Y) (y : Y) → y ≡ f x
      → made ≡ map f (take i xs) → made ++ y ∷ [] ≡ map f (take (i + 1) xs)
  one_mapped {Y} f made y same so_far =
      ap (λ (ys : List Y). ys ++ y ∷ []) so_far
      ∙ ap (λ (z : Y). map f (take i xs) ++ z ∷ []) same
      ∙ sym (map-append f (take i xs) (x ∷ []))
      ∙ ap (map f) (one_taken (take i xs) x refl refl)

-- ---- a vector's iterator over shares

module _ {Z : Type 0} where
  pub yields_items : (s : IntoIter (Result Entry Error) Z) (es : List Entry)
      → into_iter_items s ≡ ok_results es
      → YieldsList into_iter_steps into_iter_steps_back es s
  yields_items s es is stops memory =
      subst (λ (rs : List (Result Entry Error)). YieldsExactly (answer_stops stops) into_iter_steps
      into_iter_steps_back s rs) is (vec_yields (answer_stops stops) s)

-- ---- entries within bounds, one more

module _ (low high : Bound (List ℕ)) (items : List Entry) (i : ℕ) (item : Entry)
    (less : i < length items) (is : item ≡ get_or items i item) where
  next_is : take (i + 1) items ≡ take i items ++ item ∷ []
  next_is = take_more items i item less
      ∙ ap (λ (e : Entry). take i items ++ e ∷ []) (sym is)

  pub one_within : (found : List (Result Entry Error))
      → found ≡ ok_results (within low high (take i items))
      → (is_from low item.user_key && is_to high item.user_key) ≡ true
      → found ++ Ok item ∷ [] ≡ ok_results (within low high (take (i + 1) items))
  one_within found so_far inside =
      ap (λ (rs : List (Result Entry Error)). rs ++ Ok item ∷ []) so_far
      ∙ sym (map_append (within low high (take i items)) (item ∷ []))
      ∙ ap ok_results (sym (ap (within low high) next_is
      ∙ filter-append (λ (e : Entry). is_from low e.user_key && is_to high e.user_key)
      (take i items) (item ∷ [])
      ∙ ap (λ (es : List Entry). within low high (take i items) ++ es) (rw inside refl)))

  pub none_within : (found : List (Result Entry Error))
      → found ≡ ok_results (within low high (take i items))
      → (is_from low item.user_key && is_to high item.user_key) ≡ false
      → found ≡ ok_results (within low high (take (i + 1) items))
  none_within found so_far outside =
      so_far ∙ ap ok_results (sym (ap (within low high) next_is
      ∙ filter-append (λ (e : Entry). is_from low e.user_key && is_to high e.user_key)
      (take i items) (item ∷ [])
      ∙ ap (λ (es : List Entry). within low high (take i items) ++ es) (rw outside refl)
      ∙ append-nil (within low high (take i items))))

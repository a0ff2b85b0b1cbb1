-- The entries of several runs that lie within bounds, sorted.
use Rattle.std.proofs.Common.{◌≡◌, refl, sym, ◌∙◌, ap, ℕ, Bool, true, false, cond, List, [], ◌∷◌}
use Rattle.std.proofs.Common.{◌++◌, filter, inl, inr}
use Rattle.std.specs.Prelude.{◌&&◌, map}
use Rattle.std.specs.List.{AllByRecursion}
use Rattle.std.specs.Ordering.{is_gt}
use Rattle.std.specs.declared.ops.Bound.{Bound}
use Rattle.std.proofs.lemmas.Bool.{cases_Bool}
use Rattle.std.proofs.lemmas.List.Elements.{filter-append}
use Rattle.sst_entries.specs.Entry.{Entry}
use Rattle.sst_entries.specs.Point.{is_from, is_to, within}
use Rattle.sst_entries.specs.Stream.{ok_results}
use Rattle.sst_blocks.specs.table.Chunks.{joined}
use Rattle.lsm_sorted.specs.merge.Union.{AtMost, Ascends, all_entries, all_errors, entries_among}
use Rattle.lsm_sorted.specs.merge.Union.{errors_among, insert_sorted, item_cmp, sort_entries}
use Rattle.lsm_sorted.proofs.MergedLemmas.{at_most_chain, insert_least}
use Rattle.lsm_sorted.proofs.UnionLemmas.{ascends_in_order}
use Rattle.sst_entries.proofs.Lists.{all_more}
use Rattle.lsm_sorted.proofs.NewestLemmas.{filter_keeps}

-- the entries of lists without errors
pub entries_of : (es : List Entry) → entries_among (ok_results es) ≡ es
entries_of [] = refl
entries_of (e ∷ es) = ap (λ (xs : List Entry). e ∷ xs) (entries_of es)

-- what is above an entry is above each that is at most that one
all_above : (x y : Entry) → AtMost x y → (ys : List Entry) → AllByRecursion (AtMost y) ys
    → AllByRecursion (AtMost x) ys
all_above x y e ys up = all_more (AtMost y) (AtMost x) (λ z le. at_most_chain x y z e le) ys up

-- an entry that does not pass is put in for nothing
put_out : (p : Entry → Bool) (x : Entry) (ys : List Entry) → p x ≡ false
    → filter p (insert_sorted x ys) ≡ filter p ys
put_out p x [] miss = rw miss refl
put_out p x (y ∷ ys) miss =
    let rest = put_out p x ys miss in
    elim (cases_Bool (is_gt (item_cmp x y))) [
      | inl e ↦ rw e (ap (λ (zs : List Entry). cond (p y) (y ∷ zs) zs) rest)
      | inr e ↦ rw (e, miss) refl
    ]

-- one that passes stands in the same place
put_in : (p : Entry → Bool) (x : Entry) (ys : List Entry) → Ascends ys → p x ≡ true
    → filter p (insert_sorted x ys) ≡ insert_sorted x (filter p ys)
put_in p x [] up holds = rw holds refl
put_in p x (y ∷ ys) up holds = elim (cases_Bool (is_gt (item_cmp x y))) [
  | inl e ↦
      let more = put_in p x ys up.1 holds in
      elim (cases_Bool (p y)) [
        | inl f ↦ rw (e, f, e) (ap (λ (zs : List Entry). y ∷ zs) more)
        | inr f ↦ rw (e, f) more
      ]
  | inr e ↦
      let above : AllByRecursion (AtMost x) (y ∷ ys) = (e, all_above x y e ys up.0) in
      rw (e, holds) (sym (insert_least x (filter p (y ∷ ys))
      (filter_keeps (AtMost x) p (y ∷ ys) above)))
]

module _ (p : Entry → Bool) where
  -- sorting and leaving entries out may be exchanged
  pub filter_sorted : (xs : List Entry) → filter p (sort_entries xs) ≡ sort_entries (filter p xs)
  filter_sorted [] = refl
  filter_sorted (x ∷ xs) = elim (cases_Bool (p x)) [
    | inl e ↦ put_in p x (sort_entries xs) (ascends_in_order xs) e
        ∙ ap (insert_sorted x) (filter_sorted xs) ∙ sym (rw e refl)
    | inr e ↦ put_out p x (sort_entries xs) e ∙ filter_sorted xs ∙ sym (rw e refl)
  ]

  pub filter_joined : (ls : List (List Entry))
      → filter p (joined ls) ≡ joined (map (λ (es : List Entry). filter p es) ls)
  filter_joined [] = refl
  filter_joined (es ∷ ls) = filter-append p es (joined ls)
      ∙ ap (λ (xs : List Entry). filter p es ++ xs) (filter_joined ls)

  pub filter_ascends : (xs : List Entry) → Ascends xs → Ascends (filter p xs)
  filter_ascends [] up = tt
  filter_ascends (x ∷ xs) up = elim (cases_Bool (p x)) [
    | inl e ↦ rw e (filter_keeps (AtMost x) p xs up.0, filter_ascends xs up.1)
    | inr e ↦ rw e (filter_ascends xs up.1)
  ]

module _ (low high : Bound (List ℕ)) where
  -- sorting and cutting at bounds may be exchanged
  pub within_sorted : (xs : List Entry)
      → within low high (sort_entries xs) ≡ sort_entries (within low high xs)
  within_sorted xs =
      filter_sorted (λ (e : Entry). is_from low e.user_key && is_to high e.user_key) xs

  pub within_joined : (ls : List (List Entry))
      → within low high (joined ls) ≡ joined (map (within low high) ls)
  within_joined ls =
      filter_joined (λ (e : Entry). is_from low e.user_key && is_to high e.user_key) ls

pub no_errors : (es : List Entry) → errors_among (ok_results es) ≡ []
no_errors [] = refl
no_errors (e ∷ es) = no_errors es

pub entries_joined : (ls : List (List Entry))
    → all_entries (map (λ (es : List Entry). ok_results es) ls) ≡ joined ls
entries_joined [] = refl
entries_joined (es ∷ ls) = ap (λ (xs : List Entry). xs
    ++ all_entries (map (λ (us : List Entry). ok_results us) ls)) (entries_of es)
    ∙ ap (λ (xs : List Entry). es ++ xs) (entries_joined ls)

pub no_errors_joined : (ls : List (List Entry))
    → all_errors (map (λ (es : List Entry). ok_results es) ls) ≡ []
no_errors_joined [] = refl
no_errors_joined (es ∷ ls) = ap (λ xs. xs ++ all_errors
    (map (λ (us : List Entry). ok_results us) ls)) (no_errors es) ∙ no_errors_joined ls

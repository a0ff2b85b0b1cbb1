-- Putting tables in one after the other places them by the rule.
use Rattle.std.proofs.Common.{◌≡◌, refl, sym, ◌∙◌, ap, subst, ℕ, zero, suc, ◌<◌, ◌≤◌, Bool, true}
use Rattle.std.proofs.Common.{false, List, [], ◌∷◌, length, get_or, inl, inr, arith}
use Rattle.std.specs.Prelude.{◌||◌, ◌==◌, max, map, filter, IsPermutation}
use Rattle.std.specs.List.{list_any}
use Rattle.std.proofs.Math.Nat.{le-max_left, le-max_right, max-le, zero-max}
use native.Mathlib.Numerals.{unary_clauses}
use Rattle.std.proofs.lemmas.Bool.{or_left, or_right, cases_Bool, both_ways, eqb-true, eq-eqb}
use Rattle.std.proofs.lemmas.List.Sorted.{IsPermutation-refl, IsPermutation-trans}
use Rattle.std.proofs.lemmas.List.Sorted.{IsPermutation-cons, IsPermutation-insert}
use Rattle.std.proofs.lemmas.List.Sorted.{list_any-IsPermutation}
use Rattle.std.proofs.lemmas.Option.{get_or_from_slice_get}
use Rattle.lsm_sorted.specs.version.KeyRange.{Interval, key_le, overlaps}
use Rattle.lsm_sorted.specs.version.Run.{how_many}
use Rattle.lsm_sorted.specs.version.Packing.{count_to_last, least_above, number_behind}
use Rattle.lsm_sorted.specs.version.Packing.{numbering_after}
use Rattle.lsm_sorted.specs.version.Packing.{numbers_of, put, put_all, tables_of_number, touches}
use Rattle.lsm_sorted.specs.version.Packing.{with_table, ArePlaced, NumberedTable}

max_suc : (a b : ℕ) → max (suc a) (suc b) ≡ suc (max a b)
max_suc a b = simp unary_clauses

module _ {X : Type 0} (p : List X → Bool) where
  none_counted : (runs : List (List X)) → list_any p runs ≡ false → count_to_last p runs ≡ 0
  none_counted [] h = refl
  none_counted (run ∷ runs) h = rw h refl

  some_counted : (runs : List (List X)) → list_any p runs ≡ true
      → (n : ℕ) × (count_to_last p runs ≡ suc n)
  some_counted [] h = absurd cc
  some_counted (run ∷ runs) h = (count_to_last p runs, rw h refl)

  -- the run before the count passes
  top_passes : (runs : List (List X)) (n : ℕ) → count_to_last p runs ≡ suc n
      → p (get_or runs n []) ≡ true
  top_passes [] n is = absurd (omega arith)
  top_passes (run ∷ runs) n is =
      elim (cases_Bool (list_any p runs)) [
        | inl e ↦
            let one : count_to_last p (run ∷ runs) ≡ suc (count_to_last p runs) =
            rw (or_right (p run) (list_any p runs) e) refl in
            let some = some_counted runs e in
            let place : n ≡ suc some.0 = omega (arith, is, one, some.1) in
            subst (λ (m : ℕ). p (get_or (run ∷ runs) m []) ≡ true) (sym place)
            (top_passes runs some.0 some.1)
        | inr e ↦
            elim (cases_Bool (p run)) [
              | inl h ↦
                  let one : count_to_last p (run ∷ runs) ≡ suc (count_to_last p runs) =
                  rw (or_left (p run) (list_any p runs) h) refl in
                  let rest = none_counted runs e in
                  let place : n ≡ 0 = omega (arith, is, one, rest) in
                  subst (λ (m : ℕ). p (get_or (run ∷ runs) m []) ≡ true) (sym place) h
              | inr h ↦ let none : count_to_last p (run ∷ runs) ≡ 0 = rw (h, e) refl in
                  absurd (omega (arith, is, none))
            ]
      ]

  -- a run that passes is counted
  passing_below : p [] ≡ false → (runs : List (List X)) (n : ℕ) → p (get_or runs n []) ≡ true
      → n < count_to_last p runs
  passing_below none [] n h = absurd (both_ways (p []) none h)
  passing_below none (run ∷ runs) zero h =
      let one : count_to_last p (run ∷ runs) ≡ suc (count_to_last p runs) =
      rw (or_left (p run) (list_any p runs) h) refl in
      omega (arith, one)
  passing_below none (run ∷ runs) (suc n) h =
      let rest = passing_below none runs n h in
      let one : count_to_last p (run ∷ runs) ≡ suc (count_to_last p runs) =
      rw (or_right (p run) (list_any p runs) (any_at runs n h)) refl in
      omega (arith, one, rest)
    where
      any_at : (ls : List (List X)) (k : ℕ) → p (get_or ls k []) ≡ true → list_any p ls ≡ true
      any_at [] k q = absurd (both_ways (p []) none q)
      any_at (l ∷ ls) zero q = or_left (p l) (list_any p ls) q
      any_at (l ∷ ls) (suc k) q = or_right (p l) (list_any p ls) (any_at ls k q)

module _ {T : Type 0} (range : T → Interval) where
  -- ---- what the runs are after a table more

  put_at : (t : T) (runs : List (List T))
      → get_or (put range t runs) (count_to_last (touches range (range t)) runs) []
      ≡ with_table range t (get_or runs (count_to_last (touches range (range t)) runs) [])
  put_at t [] = refl
  put_at t (run ∷ runs) =
      elim (cases_Bool (touches range (range t) run || list_any (touches range (range t)) runs)) [
        | inl e ↦ rw e (put_at t runs)
        | inr e ↦ rw e refl
      ]

  put_beside : (t : T) (runs : List (List T)) (n : ℕ)
      → (count_to_last (touches range (range t)) runs ≡ n → ⊥)
      → get_or (put range t runs) n [] ≡ get_or runs n []
  put_beside t [] zero other = absurd (other refl)
  put_beside t [] (suc n) other = refl
  put_beside t (run ∷ runs) zero other =
      elim (cases_Bool (touches range (range t) run || list_any (touches range (range t)) runs)) [
        | inl e ↦ rw e refl
        | inr e ↦ let count : count_to_last (touches range (range t)) (run ∷ runs) ≡ 0 =
            rw e refl in absurd (other count)
      ]
  put_beside t (run ∷ runs) (suc n) other =
      elim (cases_Bool (touches range (range t) run || list_any (touches range (range t)) runs)) [
        | inl e ↦
            let count : count_to_last (touches range (range t)) (run ∷ runs)
            ≡ suc (count_to_last (touches range (range t)) runs) = rw e refl in
            rw e (put_beside t runs n (λ same. other (count ∙ ap suc same)))
        | inr e ↦ rw e refl
      ]

  put_length : (t : T) (runs : List (List T))
      → length (put range t runs)
      ≡ max (suc (count_to_last (touches range (range t)) runs)) (length runs)
  put_length t [] = refl
  put_length t (run ∷ runs) =
      elim (cases_Bool (touches range (range t) run || list_any (touches range (range t)) runs)) [
        | inl e ↦ rw e (ap suc (put_length t runs)
            ∙ sym (max_suc (suc (count_to_last (touches range (range t)) runs)) (length runs)))
        | inr e ↦ rw e (sym (max_suc 0 (length runs) ∙ ap suc (zero-max (length runs))))
      ]

  -- ---- the rule's number is the count's

  found : (r : Interval) (xs : List (NumberedTable T)) (n : ℕ)
      → touches range r (tables_of_number xs n) ≡ true
      → n < least_above (numbers_of (filter (λ x. overlaps (range x.table) r) xs))
  found r [] n h = absurd cc
  found r (x ∷ xs) n h =
      let o = overlaps (range x.table) r in
      elim (cases_Bool (x.number == n)) [
        | inl e ↦
            let at : x.number ≡ n = eqb-true x.number n e in
            elim (cases_Bool (overlaps (range x.table) r)) [
              | inl k ↦ rw k (let top = le-max_left (suc x.number)
                  (least_above (numbers_of (filter (λ y. overlaps (range y.table) r) xs))) in
                  omega (arith, top, at))
              | inr k ↦
                  let more : touches range r (x.table ∷ tables_of_number xs n) ≡ true = rw e at h in
                  let rest : touches range r (tables_of_number xs n) ≡ true = rw k at more in
                  rw k (found r xs n rest)
            ]
        | inr e ↦
            let rest : touches range r (tables_of_number xs n) ≡ true = rw e at h in
            let below = found r xs n rest in
            elim (cases_Bool (overlaps (range x.table) r)) [
              | inl k ↦ rw k (let top = le-max_right (suc x.number)
                  (least_above (numbers_of (filter (λ y. overlaps (range y.table) r) xs))) in
                  omega (arith, top, below))
              | inr k ↦ rw k below
            ]
      ]

  bounded : (r : Interval) (xs : List (NumberedTable T)) (k : ℕ)
      → ((n : ℕ) → touches range r (tables_of_number xs n) ≡ true → n < k)
      → least_above (numbers_of (filter (λ x. overlaps (range x.table) r) xs)) ≤ k
  bounded r [] k h = omega arith
  bounded r (x ∷ xs) k h =
      let rest = bounded r xs k (λ n q. h n (more n q)) in
      elim (cases_Bool (overlaps (range x.table) r)) [
        | inl e ↦ let own = h x.number (self e) in
            rw e (max-le {a = suc x.number} (omega (arith, own)) rest)
        | inr e ↦ rw e rest
      ]
    where
      more : (n : ℕ) → touches range r (tables_of_number xs n) ≡ true
          → touches range r (tables_of_number (x ∷ xs) n) ≡ true
      more n q =
          elim (cases_Bool (x.number == n)) [
            | inl e ↦ rw e (or_right (overlaps (range x.table) r)
                (touches range r (tables_of_number xs n)) q)
            | inr e ↦ rw e q
          ]

      self : overlaps (range x.table) r ≡ true
          → touches range r (tables_of_number (x ∷ xs) x.number) ≡ true
      self e = let same = eq-eqb x.number x.number refl in
          rw same (or_left (overlaps (range x.table) r)
          (touches range r (tables_of_number xs x.number)) e)

  -- runs of numbered tables, by every number
  record Stand (xs : List (NumberedTable T)) (runs : List (List T)) : Type 0 where
    count : length runs ≡ least_above (numbers_of xs)
    members : (n : ℕ) → IsPermutation (tables_of_number xs n) (get_or runs n [])

  number_is : (t : T) (xs : List (NumberedTable T)) (runs : List (List T)) → Stand xs runs
      → count_to_last (touches range (range t)) runs ≡ number_behind range xs t
  number_is t xs runs h =
      let p = touches range (range t) in
      let low : number_behind range xs t ≤ count_to_last p runs =
      bounded (range t) xs (count_to_last p runs)
      (λ n q. passing_below p refl runs n (sym (list_any-IsPermutation
      (λ x. overlaps (range x) (range t)) (tables_of_number xs n) (get_or runs n [])
      (h.members n)) ∙ q)) in
      let high : count_to_last p runs ≤ number_behind range xs t = up (count_to_last p runs) refl in
      omega (arith, low, high)
    where
      up : (k : ℕ) → count_to_last (touches range (range t)) runs ≡ k → k ≤ number_behind range xs t
      up zero is = omega arith
      up (suc k) is =
          let below = found (range t) xs k (list_any-IsPermutation
          (λ x. overlaps (range x) (range t)) (tables_of_number xs k) (get_or runs k [])
          (h.members k) ∙ top_passes (touches range (range t)) runs k is) in
          omega (arith, below)

  stand_more : (t : T) (xs : List (NumberedTable T)) (runs : List (List T)) → Stand xs runs
      → Stand (record { table = t; number = number_behind range xs t } ∷ xs) (put range t runs)
  stand_more t xs runs h =
      let k = count_to_last (touches range (range t)) runs in
      let is : k ≡ number_behind range xs t = number_is t xs runs h in
      record {
        count = put_length t runs ∙ ap (λ n. max (suc n) (length runs)) is
            ∙ ap (λ n. max (suc (number_behind range xs t)) n) h.count;
        members = λ n. elim (cases_Bool (number_behind range xs t == n)) [
          | inl e ↦
              let at : k ≡ n = is ∙ eqb-true (number_behind range xs t) n e in
              let run_is : get_or (put range t runs) n [] ≡ with_table range t (get_or runs n []) =
              subst (λ (m : ℕ). get_or (put range t runs) m []
              ≡ with_table range t (get_or runs m [])) at (put_at t runs) in
              rw (e, run_is)
              (IsPermutation-trans (t ∷ tables_of_number xs n) (t ∷ get_or runs n [])
              (with_table range t (get_or runs n []))
              (IsPermutation-cons t (tables_of_number xs n) (get_or runs n []) (h.members n))
              (IsPermutation-insert (get_or runs n [])
              (how_many (λ r. key_le r.min (range t).min) (map range (get_or runs n []))) t))
          | inr e ↦
              let run_is : get_or (put range t runs) n [] ≡ get_or runs n [] =
              put_beside t runs n (λ same. both_ways (number_behind range xs t == n) e
              (eq-eqb (number_behind range xs t) n (sym is ∙ same))) in
              rw (e, run_is) (h.members n)
        ];
      }

  stand_all : (ts : List T) (xs : List (NumberedTable T)) (runs : List (List T)) → Stand xs runs
      → Stand (numbering_after range xs ts) (put_all range ts runs)
  stand_all [] xs runs h = h
  stand_all (t ∷ ts) xs runs h = stand_all ts (record
      { table = t; number = number_behind range xs t } ∷ xs) (put range t runs)
      (stand_more t xs runs h)

  -- tables that are put in one after the other stand by the rule
  pub placed_by_rule : (ts : List T) → ArePlaced range ts (put_all range ts [])
  placed_by_rule ts =
      let stand = stand_all ts [] [] (record {
        count = refl;
        members =
            λ n. IsPermutation-refl [];
      }) in
      record {
        count = stand.count;
        members = λ n run at. subst (λ (l : List T). IsPermutation
            (tables_of_number (numbering_after range [] ts) n) l)
            (get_or_from_slice_get (put_all range ts []) n run [] at) (stand.members n);
      }

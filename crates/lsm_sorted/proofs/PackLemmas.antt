-- Putting a table into packed runs: order, and what each key's tables are.
use Rattle.std.proofs.Common.{◌≡◌, refl, sym, ◌∙◌, ap, subst, ℕ, ◌<◌, ◌≤◌, ◌+◌, Bool, true, false}
use Rattle.std.proofs.Common.{cond, List, [], ◌∷◌, ◌++◌, append_assoc, append-nil, length}
use Rattle.std.proofs.Common.{length-append, take, drop, get_or, ◌-◌, zero, suc, inl, inr, arith}
use Rattle.std.specs.Prelude.{◌⊎◌, ◌≢◌, map, filter, not, ◌&&◌, ◌||◌, ◌==◌, IsPermutation, IfOk}
use Rattle.std.specs.Prelude.{Result, Ok, Err}
use Rattle.std.specs.List.{list_all, list_any, AllByRecursion, insert}
use Rattle.std.specs.declared.ops.Bound.TheVariants.{Included}
use Rattle.std.proofs.Math.ListN.{set, drop_of_length-le}
use Rattle.std.proofs.lemmas.List.{at_drop_more}
use Rattle.std.proofs.lemmas.List.Concat.{flat_map-append}
use Rattle.std.proofs.lemmas.List.Elements.{filter-append}
use Rattle.std.proofs.lemmas.List.Sorted.{IsPermutation-refl, IsPermutation-trans}
use Rattle.std.proofs.lemmas.List.Sorted.{IsPermutation-sym, IsPermutation-append_left}
use Rattle.std.proofs.lemmas.List.Sorted.{IsPermutation-append_right, IsPermutation-insert}
use Rattle.std.proofs.lemmas.List.Sorted.{IsPermutation-to_front, length_permutation}
use Rattle.std.proofs.lemmas.Bool.{and_parts, and_from, and_cases, or_cases, or_parts, or_left}
use Rattle.std.proofs.lemmas.Bool.{or_right, or_from, cases_Bool, both_ways, ne_eqb}
use Rattle.sst_entries.specs.Key.{key_lt}
use Rattle.lsm_sorted.specs.version.KeyRange.{Interval, key_le, is_well_formed, has_key, overlaps}
use Rattle.lsm_sorted.specs.version.Run.{are_in_order, how_many}
use Rattle.lsm_sorted.specs.version.Packing.{tables_in, holders, touches, with_table, put, put_all}
use Rattle.lsm_sorted.specs.version.Packing.{count_to_last, AreInOrder, ArePacked}
use Rattle.lsm_sorted.specs.version.Packing.{AreTablesWellFormed}
use Rattle.lsm_sorted.specs.version.Packing.{AreWellFormed, AreNotEmpty}
use Rattle.lsm_sorted.specs.version.Links.{IsElement}
use Rattle.lsm_sorted.proofs.IntervalLemmas.{above, le_trans, lt_to_le, lt_then_le, shared_overlap}
use Rattle.lsm_sorted.proofs.RunLemmas.{falls-starts_within, parts, in_order_from, further}
use Rattle.lsm_sorted.proofs.RunLemmas.{none_count}

module _ {X : Type 0} where
  pub mem-append_left : (xs ys : List X) (x : X) → IsElement x xs → IsElement x (xs ++ ys)
  mem-append_left [] ys x h = absurd h
  mem-append_left (z ∷ zs) ys x h = elim h [
    | inl e ↦ inl e
    | inr m ↦
        inr (mem-append_left zs ys x m)
  ]

  pub mem-append_right : (xs ys : List X) (x : X) → IsElement x ys → IsElement x (xs ++ ys)
  mem-append_right [] ys x h = h
  mem-append_right (z ∷ zs) ys x h = inr (mem-append_right zs ys x h)

  pub mem-append_cases : (xs ys : List X) (x : X) → IsElement x (xs ++ ys)
      → IsElement x xs ⊎ IsElement x ys
  mem-append_cases [] ys x h = inr h
  mem-append_cases (z ∷ zs) ys x h =
      elim h [
        | inl e ↦ inl (inl e)
        | inr m ↦ elim (mem-append_cases zs ys x m) [ inl a ↦ inl (inr a) | inr b ↦ inr b ]
      ]

  pub any_fails : (p : X → Bool) (xs : List X) → list_any p xs ≡ false → (x : X) → IsElement x xs
      → p x ≡ false
  any_fails p [] h x m = absurd m
  any_fails p (y ∷ ys) h x m =
      let k = or_parts (p y) (list_any p ys) h in
      elim m [ inl e ↦ ap p e ∙ k.0 | inr n ↦ any_fails p ys k.1 x n ]

  pub any_found : (p : X → Bool) (xs : List X) → list_any p xs ≡ true
      → (x : X) × IsElement x xs × (p x ≡ true)
  any_found p [] h = absurd cc
  any_found p (y ∷ ys) h =
      elim (or_cases (p y) (list_any p ys) h) [
        | inl e ↦ (y, inl refl, e)
        | inr k ↦ let f = any_found p ys k in (f.0, inr f.1, f.2)
      ]

  pub any_from : (p : X → Bool) (xs : List X) (x : X) → IsElement x xs → p x ≡ true
      → list_any p xs ≡ true
  any_from p [] x m h = absurd m
  any_from p (y ∷ ys) x m h =
      elim m [
        | inl e ↦ or_left (p y) (list_any p ys) (ap p (sym e) ∙ h)
        | inr n ↦ or_right (p y) (list_any p ys) (any_from p ys x n h)
      ]

  pub all_of : (P : X → Type 0) (xs : List X) → AllByRecursion P xs → (x : X) → IsElement x xs → P x
  all_of P [] h x m = absurd m
  all_of P (y ∷ ys) h x m = elim m [ inl e ↦ subst P (sym e) h.0 | inr n ↦ all_of P ys h.1 x n ]

  pub all_by : (P : X → Type 0) (xs : List X) → ((x : X) → IsElement x xs → P x)
      → AllByRecursion P xs
  all_by P [] h = tt
  all_by P (y ∷ ys) h = (h y (inl refl), all_by P ys (λ x m. h x (inr m)))

  filter_none : (p : X → Bool) (xs : List X) → ((x : X) → IsElement x xs → p x ≡ false)
      → filter p xs ≡ []
  filter_none p [] h = refl
  filter_none p (y ∷ ys) h = let e : p y ≡ false = h y (inl refl) in
      rw e (filter_none p ys (λ x m. h x (inr m)))

  none_parts : (xs ys : List X) → xs ++ ys ≡ [] → (xs ≡ []) × (ys ≡ [])
  none_parts [] ys h = (refl, h)
  none_parts (x ∷ xs) ys h = absurd cc

  take_and_drop : (n : ℕ) (xs : List X) → take n xs ++ drop n xs ≡ xs
  take_and_drop zero xs = refl
  take_and_drop (suc n) [] = refl
  take_and_drop (suc n) (x ∷ xs) = ap (λ l. x ∷ l) (take_and_drop n xs)

  pub filter-cons_no : (p : X → Bool) (x : X) (xs : List X) → p x ≡ false
      → filter p (x ∷ xs) ≡ filter p xs
  filter-cons_no p x xs e = rw e refl

  pub filter-cons_yes : (p : X → Bool) (x : X) (xs : List X) → p x ≡ true
      → filter p (x ∷ xs) ≡ x ∷ filter p xs
  filter-cons_yes p x xs e = rw e refl

  -- a list with an element more, as a filter sees it
  filter-insert_no : (p : X → Bool) (xs : List X) (n : ℕ) (x : X) → p x ≡ false
      → filter p (insert xs n x) ≡ filter p xs
  filter-insert_no p xs n x e =
      filter-append p (take n xs) (x ∷ drop n xs)
      ∙ ap (λ l. filter p (take n xs) ++ l) (filter-cons_no p x (drop n xs) e)
      ∙ sym (filter-append p (take n xs) (drop n xs))
      ∙ ap (filter p) (take_and_drop n xs)

  filter-insert_alone : (p : X → Bool) (xs : List X) (n : ℕ) (x : X) → p x ≡ true → filter p xs ≡ []
      → filter p (insert xs n x) ≡ x ∷ []
  filter-insert_alone p xs n x e none =
      let k = none_parts (filter p (take n xs)) (filter p (drop n xs))
      (sym (filter-append p (take n xs) (drop n xs)) ∙ ap (filter p) (take_and_drop n xs)
      ∙ none) in
      filter-append p (take n xs) (x ∷ drop n xs)
      ∙ ap (λ l. filter p (take n xs) ++ l) (filter-cons_yes p x (drop n xs) e)
      ∙ ap (λ l. l ++ x ∷ filter p (drop n xs)) k.0
      ∙ ap (λ l. x ∷ l) k.1

pub overlaps_comm : (a b : Interval) → overlaps a b ≡ overlaps b a
overlaps_comm a b = flip (key_le b.min a.max) (key_le a.min b.max)
  where
    flip : (x y : Bool) → (x && y) ≡ (y && x)
    flip true true = refl
    flip true false = refl
    flip false true = refl
    flip false false = refl

module _ {T : Type 0} (range : T → Interval) where
  -- of two that have a key, each touches the other
  no_holder : (t : T) (ts : List T) (k : List ℕ) → has_key (range t) k ≡ true
      → ((x : T) → IsElement x ts → overlaps (range x) (range t) ≡ false) → (x : T) → IsElement x ts
      → has_key (range x) k ≡ false
  no_holder t ts k has apart x m =
      elim (cases_Bool (has_key (range x) k)) [
        | inl e ↦ absurd (both_ways (overlaps (range x) (range t)) (apart x m)
            (shared_overlap (range x) (range t) (k, e, has)))
        | inr e ↦ e
      ]

  pub untouched : (r : Interval) (runs : List (List T)) → list_any (touches range r) runs ≡ false
      → (x : T) → IsElement x (tables_in runs) → overlaps (range x) r ≡ false
  untouched r [] h x m = absurd m
  untouched r (run ∷ runs) h x m =
      let k = or_parts (touches range r run) (list_any (touches range r) runs) h in
      elim (mem-append_cases run (tables_in runs) x m) [
        | inl a ↦ any_fails (λ t. overlaps (range t) r) run k.0 x a
        | inr b ↦ untouched r runs k.1 x b
      ]

  pub put_here : (t : T) (run : List T) (runs : List (List T))
      → touches range (range t) run || list_any (touches range (range t)) runs ≡ false
      → put range t (run ∷ runs) ≡ with_table range t run ∷ runs
  put_here t run runs h = rw h refl

  pub put_behind : (t : T) (run : List T) (runs : List (List T))
      → touches range (range t) run || list_any (touches range (range t)) runs ≡ true
      → put range t (run ∷ runs) ≡ run ∷ put range t runs
  put_behind t run runs h = rw h refl

  -- a table more comes last among those that have a key
  pub put_holders : (k : List ℕ) (t : T) (runs : List (List T))
      → holders range (put range t runs) k
      ≡ holders range runs k ++ filter (λ x. has_key (range x) k) (t ∷ [])
  put_holders k t [] = refl
  put_holders k t (run ∷ runs) =
      let p : T → Bool = λ x. has_key (range x) k in
      let b = touches range (range t) run || list_any (touches range (range t)) runs in
      elim (cases_Bool b) [
        | inl e ↦
            ap (λ rs. holders range rs k) (put_behind t run runs e)
            ∙ filter-append p run (tables_in (put range t runs))
            ∙ ap (λ l. filter p run ++ l) (put_holders k t runs)
            ∙ sym (append_assoc (filter p run) (filter p (tables_in runs)) (filter p (t ∷ [])))
            ∙ ap (λ l. l ++ filter p (t ∷ [])) (sym (filter-append p run (tables_in runs)))
        | inr e ↦
            let parted = or_parts (touches range (range t) run)
            (list_any (touches range (range t)) runs) e in
            ap (λ rs. holders range rs k) (put_here t run runs e)
            ∙ filter-append p (with_table range t run) (tables_in runs)
            ∙ elim (cases_Bool (has_key (range t) k)) [
              | inl has ↦
                  let none_here : filter p run ≡ [] = filter_none p run
                  (no_holder t run k has (any_fails (λ x. overlaps (range x) (range t)) run
                  parted.0)) in
                  let none_later : filter p (tables_in runs) ≡ [] =
                  filter_none p (tables_in runs) (no_holder t (tables_in runs) k has
                  (untouched (range t) runs parted.1)) in
                  ap (λ l. l ++ filter p (tables_in runs))
                  (filter-insert_alone p run (how_many (λ r. key_le r.min (range t).min)
                  (map range run)) t has none_here)
                  ∙ ap (λ l. t ∷ l) none_later
                  ∙ sym (filter-cons_yes p t [] has)
                  ∙ ap (λ l. l ++ filter p (t ∷ [])) (sym
                  (filter-append p run (tables_in runs)
                  ∙ ap (λ l. l ++ filter p (tables_in runs)) none_here ∙ none_later))
              | inr has ↦
                  ap (λ l. l ++ filter p (tables_in runs))
                  (filter-insert_no p run (how_many (λ r. key_le r.min (range t).min)
                  (map range run)) t has)
                  ∙ sym (filter-append p run (tables_in runs))
                  ∙ sym (append-nil (filter p (run ++ tables_in runs)))
                  ∙ ap (λ l. filter p (run ++ tables_in runs) ++ l)
                  (sym (filter-cons_no p t [] has))
            ]
      ]

  pub put_all_holders : (k : List ℕ) (ts : List T) (runs : List (List T))
      → holders range (put_all range ts runs) k
      ≡ holders range runs k ++ filter (λ x. has_key (range x) k) ts
  put_all_holders k [] runs = sym (append-nil (holders range runs k))
  put_all_holders k (t ∷ ts) runs =
      let p : T → Bool = λ x. has_key (range x) k in
      put_all_holders k ts (put range t runs)
      ∙ ap (λ l. l ++ filter p ts) (put_holders k t runs)
      ∙ append_assoc (holders range runs k) (filter p (t ∷ [])) (filter p ts)
      ∙ ap (λ l. holders range runs k ++ l) (sym (filter-append p (t ∷ []) ts))

-- some element passes where those that pass are not none
pub any_filter : {X : Type 0} (p : X → Bool) (xs : List X)
    → not (length (filter p xs) == 0) ≡ list_any p xs
any_filter p [] = refl
any_filter p (x ∷ xs) =
    elim (cases_Bool (p x)) [
      | inl e ↦
          let some : (suc (length (filter p xs)) == 0) ≡ false =
          ne_eqb (suc (length (filter p xs))) 0 (λ h. absurd (omega arith)) in
          rw e (ap not some)
      | inr e ↦ rw e (any_filter p xs)
    ]

module _ {T : Type 0} (range : T → Interval) where
  -- a table put in front of the first that starts after it
  abbrev ins : T → List T → List T
  ins t [] = t ∷ []
  ins t (x ∷ xs) = cond (key_le (range x).min (range t).min) (x ∷ ins t xs) (t ∷ x ∷ xs)

  with_table_is : (t : T) (run : List T) → are_in_order (map range run) ≡ true
      → with_table range t run ≡ ins t run
  with_table_is t [] h = refl
  with_table_is t (x ∷ xs) h =
      elim (cases_Bool (key_le (range x).min (range t).min)) [
        | inl e ↦ rw e (ap (λ l. x ∷ l) (with_table_is t xs
            (parts (range x) (map range xs) h).rest))
        | inr e ↦
            let none : how_many (λ r. key_le r.min (range t).min) (map range xs) ≡ 0 =
            none_count range (λ r. key_le r.min (range t).min)
            (falls-starts_within (Included (range t).min)) x xs h e in
            rw (e, none) refl
      ]

  all-ins : (p : Interval → Bool) (t : T) (xs : List T) → p (range t) ≡ true
      → list_all p (map range xs) ≡ true → list_all p (map range (ins t xs)) ≡ true
  all-ins p t [] h all = rw h refl
  all-ins p t (x ∷ xs) h all =
      let k = and_parts (p (range x)) (list_all p (map range xs)) all in
      elim (cases_Bool (key_le (range x).min (range t).min)) [
        | inl e ↦ rw e (and_from (p (range x)) (list_all p (map range (ins t xs))) k.0
            (all-ins p t xs h k.1))
        | inr e ↦ rw e (and_from (p (range t)) (p (range x) && list_all p (map range xs)) h all)
      ]

  ins_in_order : (t : T) (xs : List T) → are_in_order (map range xs) ≡ true
      → is_well_formed (range t) ≡ true
      → ((x : T) → IsElement x xs → overlaps (range x) (range t) ≡ false)
      → are_in_order (map range (ins t xs)) ≡ true
  ins_in_order t [] h wt apart = in_order_from (range t) []
      (record { formed = wt; before = refl; rest = refl })
  ins_in_order t (x ∷ xs) h wt apart =
      let k = parts (range x) (map range xs) h in
      let beside = apart x (inl refl) in
      elim (cases_Bool (key_le (range x).min (range t).min)) [
        | inl e ↦
            let reaches : key_le (range x).min (range t).max ≡ true =
            le_trans (range x).min (range t).min (range t).max e wt in
            let ends : key_le (range t).min (range x).max ≡ false =
            elim (and_cases (key_le (range t).min (range x).max)
            (key_le (range x).min (range t).max) beside) [
              | inl a ↦ a
              | inr b ↦ absurd (both_ways
                  (key_le (range x).min (range t).max) b reaches)
            ] in
            rw e (in_order_from (range x) (map range (ins t xs)) (record {
              formed = k.formed;
              before = all-ins (λ later. key_lt (range x).max later.min) t xs
                  (above (range t).min (range x).max ends) k.before;
              rest = ins_in_order t xs k.rest wt (λ y m. apart y (inr m));
            }))
        | inr e ↦
            let starts : key_lt (range t).min (range x).min ≡ true =
            above (range x).min (range t).min e in
            let reaches : key_le (range t).min (range x).max ≡ true =
            lt_to_le (range t).min (range x).max (lt_then_le (range t).min (range x).min
            (range x).max starts k.formed) in
            let ends : key_le (range x).min (range t).max ≡ false =
            elim (and_cases (key_le (range t).min (range x).max)
            (key_le (range x).min (range t).max) beside) [
              | inl a ↦ absurd (both_ways (key_le (range t).min (range x).max) a reaches)
              | inr
                  b ↦ b
            ] in
            let before : key_lt (range t).max (range x).min ≡ true =
            above (range x).min (range t).max ends in
            rw e (in_order_from (range t) (map range (x ∷ xs)) (record {
              formed = wt;
              before = and_from (key_lt (range t).max (range x).min)
                  (list_all (λ later. key_lt (range t).max later.min) (map range xs)) before
                  (further (range t).max (range x) (map range xs) k.formed before k.before);
              rest = h;
            }))
      ]

  pub with_table_in_order : (t : T) (run : List T) → are_in_order (map range run) ≡ true
      → is_well_formed (range t) ≡ true
      → ((x : T) → IsElement x run → overlaps (range x) (range t) ≡ false)
      → are_in_order (map range (with_table range t run)) ≡ true
  with_table_in_order t run h wt apart = subst (λ (l : List T). are_in_order (map range l) ≡ true)
      (sym (with_table_is t run h)) (ins_in_order t run h wt apart)

  some_more : (xs : List T) (n : ℕ) (t : T) → insert xs n t ≢ []
  some_more xs n t e = go (take n xs) e
    where
      go : (ys : List T) → ys ++ t ∷ drop n xs ≡ [] → ⊥
      go [] h = absurd cc
      go (y ∷ ys) h = absurd cc

  pub put_packed : (t : T) (runs : List (List T)) → is_well_formed (range t) ≡ true
      → ArePacked range runs → ArePacked range (put range t runs)
  put_packed t [] wt h = (
    (
      in_order_from (range t) []
          (record { formed = wt; before = refl; rest = refl }),
      (λ e. absurd cc),
    ),
    tt,
  )
  put_packed t (run ∷ runs) wt h =
      elim (cases_Bool (touches range (range t) run || list_any (touches range (range t)) runs)) [
        | inl e ↦ subst (ArePacked range) (sym (put_behind range t run runs e))
            (h.0, put_packed t runs wt h.1)
        | inr e ↦
            let parted = or_parts (touches range (range t) run)
            (list_any (touches range (range t)) runs) e in
            subst (ArePacked range) (sym (put_here range t run runs e)) (
              (
                with_table_in_order t run h.0.0 wt (any_fails
                    (λ x. overlaps (range x) (range t)) run parted.0),
                some_more run
                    (how_many (λ r. key_le r.min (range t).min) (map range run)) t,
              ),
              h.1,
            )
      ]

  pub put_all_packed : (ts : List T) (runs : List (List T)) → AreTablesWellFormed range ts
      → ArePacked range runs → ArePacked range (put_all range ts runs)
  put_all_packed [] runs wf h = h
  put_all_packed (t ∷ ts) runs wf h = put_all_packed ts (put range t runs) wf.1
      (put_packed t runs wf.0 h)

  pub put_all-append : (ts us : List T) (runs : List (List T))
      → put_all range (ts ++ us) runs ≡ put_all range us (put_all range ts runs)
  put_all-append [] us runs = refl
  put_all-append (t ∷ ts) us runs = put_all-append ts us (put range t runs)

module _ {X : Type 0} (p : X → Bool) where
  count-none : (xs : List X) → list_any p xs ≡ false → count_to_last p xs ≡ 0
  count-none [] h = refl
  count-none (x ∷ xs) h = rw h refl

  any_at : (xs : List X) (k : ℕ) (d : X) → k < length xs → p (get_or xs k d) ≡ true
      → list_any p xs ≡ true
  any_at [] k d lt h = absurd (omega arith)
  any_at (x ∷ xs) zero d lt h = or_left (p x) (list_any p xs) h
  any_at (x ∷ xs) (suc k) d lt h = or_right (p x) (list_any p xs) (any_at xs k d (omega arith) h)

  count-suc : (xs : List X) (k : ℕ) (d : X) → k < length xs → p (get_or xs k d) ≡ true
      → list_any p (drop (suc k) xs) ≡ false → count_to_last p xs ≡ suc k
  count-suc [] k d lt h none = absurd (omega arith)
  count-suc (x ∷ xs) zero d lt h none =
      let e : (p x || list_any p xs) ≡ true = or_left (p x) (list_any p xs) h in
      rw e (ap suc (count-none xs none))
  count-suc (x ∷ xs) (suc k) d lt h none =
      let e : (p x || list_any p xs) ≡ true = or_right (p x) (list_any p xs)
      (any_at xs k d (omega arith) h) in
      rw e (ap suc (count-suc xs k d (omega arith) h none))

  -- the walk down from the end: the element before place n is the last that passes
  pub count_found : (xs : List X) (n : ℕ) (x : X) (r : Bool) → 0 < n → n ≤ length xs
      → x ≡ get_or xs (n - 1) x → r ≡ p x → r ≡ true → list_any p (drop n xs) ≡ false
      → n - 1 + 1 ≡ count_to_last p xs
  count_found xs n x r some le at is h none =
      let place : suc (n - 1) ≡ n = omega arith in
      sym (count-suc xs (n - 1) x (omega arith) (ap p (sym at) ∙ sym is ∙ h)
      (subst (λ (m : ℕ). list_any p (drop m xs) ≡ false) (sym place) none) ∙ omega arith)

  pub count_past : (xs : List X) (n : ℕ) (x : X) (r : Bool) → 0 < n → n ≤ length xs
      → x ≡ get_or xs (n - 1) x → r ≡ p x → r ≡ false → list_any p (drop n xs) ≡ false
      → list_any p (drop (n - 1) xs) ≡ false
  count_past xs n x r some le at is h none =
      let place : n - 1 + 1 ≡ n = omega arith in
      at_drop_more (list_any p) xs (n - 1) x (omega arith)
      ∙ or_from (p (get_or xs (n - 1) x)) (list_any p (drop (n - 1 + 1) xs))
      (ap p (sym at) ∙ sym is ∙ h) (subst (λ (m : ℕ). list_any p (drop m xs) ≡ false)
      (sym place) none)

  pub count_nothing : (xs : List X) (n : ℕ) → n ≡ 0 → list_any p (drop n xs) ≡ false
      → 0 ≡ count_to_last p xs
  count_nothing xs n is none = sym (count-none xs
      (subst (λ (m : ℕ). list_any p (drop m xs) ≡ false) is none))

  pub count_start : (xs : List X) → list_any p (drop (length xs) xs) ≡ false
  count_start xs = ap (list_any p) (drop_of_length-le xs (omega arith))

module _ {T : Type 0} (range : T → Interval) where
  pub order_at : (runs : List (List T)) (n : ℕ) (d : List T) → n < length runs
      → AreInOrder range runs → are_in_order (map range (get_or runs n d)) ≡ true
  order_at [] n d lt h = absurd (omega arith)
  order_at (run ∷ runs) zero d lt h = h.0
  order_at (run ∷ runs) (suc n) d lt h = order_at runs n d (omega arith) h.1

  -- a table goes into the run behind the last one that it touches
  pub put_set : (t : T) (runs : List (List T)) (n : ℕ) (d : List T)
      → n ≡ count_to_last (touches range (range t)) runs → n < length runs
      → set runs n (with_table range t (get_or runs n d)) ≡ put range t runs
  put_set t [] n d is lt = absurd (omega arith)
  put_set t (run ∷ runs) n d is lt =
      let tail = count_to_last (touches range (range t)) runs in
      elim (cases_Bool (touches range (range t) run || list_any (touches range (range t)) runs)) [
        | inl e ↦
            let n_is : n ≡ suc tail = rw e at is in
            let below : tail < length runs = omega arith in
            subst (λ (m : ℕ). set (run ∷ runs) m (with_table range t (get_or (run ∷ runs) m d))
            ≡ put range t (run ∷ runs)) (sym n_is)
            (ap (λ rs. run ∷ rs) (put_set t runs tail d refl below)
            ∙ sym (put_behind range t run runs e))
        | inr e ↦
            let n_is : n ≡ 0 = rw e at is in
            subst (λ (m : ℕ). set (run ∷ runs) m (with_table range t (get_or (run ∷ runs) m d))
            ≡ put range t (run ∷ runs)) (sym n_is) (sym (put_here range t run runs e))
      ]

  -- a table that touches the last run starts a new one
  pub put_new : (t : T) (runs : List (List T)) (n : ℕ)
      → n ≡ count_to_last (touches range (range t)) runs → length runs ≤ n
      → runs ++ (t ∷ []) ∷ [] ≡ put range t runs
  put_new t [] n is le = refl
  put_new t (run ∷ runs) n is le =
      let tail = count_to_last (touches range (range t)) runs in
      elim (cases_Bool (touches range (range t) run || list_any (touches range (range t)) runs)) [
        | inl e ↦
            let n_is : n ≡ suc tail = rw e at is in
            let past : length runs ≤ tail = omega arith in
            ap (λ rs. run ∷ rs) (put_new t runs tail refl past)
            ∙ sym (put_behind range t run runs e)
        | inr e ↦ let n_is : n ≡ 0 = rw e at is in absurd (omega arith)
      ]

  count_at : (t : T) (view items : List (List T)) (r : Interval) (n : ℕ) → view ≡ items
      → r ≡ range t → (AreInOrder range view → n ≡ count_to_last (touches range r) view)
      → AreInOrder range items → n ≡ count_to_last (touches range (range t)) items
  count_at t view items r n same is counted ordered =
      counted (subst (AreInOrder range) (sym same) ordered)
      ∙ ap (λ rs. count_to_last (touches range r) rs) same
      ∙ ap (λ k. count_to_last (touches range k) items) is

  -- the run behind the last one that the table touches has it now
  pub placed_in : (t : T) (view items : List (List T)) (r : Interval) (n : ℕ) (old new : List T)
      → view ≡ items → r ≡ range t
      → (AreInOrder range view → n ≡ count_to_last (touches range r) view) → n < length items
      → old ≡ get_or items n old
      → (are_in_order (map range old) ≡ true → new ≡ with_table range t old)
      → AreInOrder range items → set items n new ≡ put range t items
  placed_in t view items r n old new same is counted lt at more ordered =
      let here : are_in_order (map range old) ≡ true =
      subst (λ (run : List T). are_in_order (map range run) ≡ true) (sym at)
      (order_at items n old lt ordered) in
      ap (λ run. set items n run) (more here ∙ ap (λ run. with_table range t run) at)
      ∙ put_set t items n old (count_at t view items r n same is counted ordered) lt

  -- a new run has the table
  pub placed_behind : (t : T) (view items after : List (List T)) (r : Interval) (n : ℕ)
      (run : List T) → view ≡ items → r ≡ range t
      → (AreInOrder range view → n ≡ count_to_last (touches range r) view) → length items ≤ n
      → run ≡ t ∷ [] → after ≡ items ++ run ∷ [] → AreInOrder range items
      → after ≡ put range t items
  placed_behind t view items after r n run same is counted le only after_is ordered =
      after_is ∙ ap (λ l. items ++ l ∷ []) only
      ∙ put_new t items n (count_at t view items r n same is counted ordered) le

  pub in_order_of : (runs : List (List T)) → ArePacked range runs → AreInOrder range runs
  in_order_of [] h = tt
  in_order_of (run ∷ runs) h = (h.0.0, in_order_of runs h.1)

  pub formed_parts : (ts : List T) (t : T) → AreTablesWellFormed range (ts ++ t ∷ [])
      → AreTablesWellFormed range ts × (is_well_formed (range t) ≡ true)
  formed_parts [] t h = (tt, h.0)
  formed_parts (x ∷ xs) t h = let k = formed_parts xs t h.1 in ((h.0, k.0), k.1)

  -- one more table of those that are put in one after the other
  pub put_more : (ts : List T) (t : T) (start now next : List (List T))
      → (AreTablesWellFormed range ts → ArePacked range start → now ≡ put_all range ts start)
      → (AreInOrder range now → next ≡ put range t now) → AreTablesWellFormed range (ts ++ t ∷ [])
      → ArePacked range start → next ≡ put_all range (ts ++ t ∷ []) start
  put_more ts t start now next before put_one formed packed =
      let k = formed_parts ts t formed in
      let is = before k.0 packed in
      let ordered : AreInOrder range now = subst (AreInOrder range) (sym is)
      (in_order_of (put_all range ts start) (put_all_packed range ts start k.0 packed)) in
      put_one ordered ∙ ap (λ rs. put range t rs) is ∙ sym (put_all-append range ts (t ∷ []) start)

  pub tables_in-push : (runs : List (List T)) (run : List T)
      → tables_in (runs ++ run ∷ []) ≡ tables_in runs ++ run
  tables_in-push runs run = flat_map-append (λ (ts : List T). ts) runs (run ∷ [])
      ∙ ap (λ l. tables_in runs ++ l) (append-nil run)

  formed_both : (ts us : List T) → AreTablesWellFormed range (ts ++ us)
      → AreTablesWellFormed range ts × AreTablesWellFormed range us
  formed_both [] us h = (tt, h)
  formed_both (x ∷ xs) us h = let k = formed_both xs us h.1 in ((h.0, k.0), k.1)

  -- one more run whose tables are put in
  pub put_run : (runs : List (List T)) (run : List T) (now next : List (List T))
      → (AreWellFormed range runs → now ≡ put_all range (tables_in runs) [])
      → (AreTablesWellFormed range run → ArePacked range now → next ≡ put_all range run now)
      → AreWellFormed range (runs ++ run ∷ [])
      → next ≡ put_all range (tables_in (runs ++ run ∷ [])) []
  put_run runs run now next before put_tables formed =
      let k = formed_both (tables_in runs) run (subst (AreTablesWellFormed range)
      (tables_in-push runs run) formed) in
      let is = before k.0 in
      let packed : ArePacked range now = subst (ArePacked range) (sym is)
      (put_all_packed range (tables_in runs) [] k.0 tt) in
      put_tables k.1 packed ∙ ap (λ rs. put_all range run rs) is
      ∙ sym (put_all-append range (tables_in runs) run [])
      ∙ ap (λ ts. put_all range ts []) (sym (tables_in-push runs run))

-- a fact of a success gives another
pub if_ok : {Y E : Type 0} {P Q : Y → Type 0} (r : Result Y E) → ((y : Y) → P y → Q y) → IfOk r P
    → IfOk r Q
if_ok (Ok y) h p = h y p
if_ok (Err e) h p = p

module _ {T : Type 0} where
  -- one table more in one of the runs
  pub permutes_in : (t : T) (items : List (List T)) (n : ℕ) (old new : List T) → n < length items
      → old ≡ get_or items n old → IsPermutation (old ++ t ∷ []) new
      → IsPermutation (tables_in items ++ t ∷ []) (tables_in (set items n new))
  permutes_in t [] n old new lt at same = absurd (omega arith)
  permutes_in t (run ∷ runs) zero old new lt at same =
      let here : IsPermutation (run ++ t ∷ []) new =
      subst (λ (l : List T). IsPermutation (l ++ t ∷ []) new) at same in
      IsPermutation-trans ((run ++ tables_in runs) ++ t ∷ []) ((run ++ t ∷ []) ++ tables_in runs)
      (new ++ tables_in runs)
      (IsPermutation-trans ((run ++ tables_in runs) ++ t ∷ []) (t ∷ (run ++ tables_in runs))
      ((run ++ t ∷ []) ++ tables_in runs)
      (IsPermutation-to_front (run ++ tables_in runs) t)
      (IsPermutation-append_left (tables_in runs) (t ∷ run) (run ++ t ∷ [])
      (IsPermutation-sym (run ++ t ∷ []) (t ∷ run) (IsPermutation-to_front run t))))
      (IsPermutation-append_left (tables_in runs) (run ++ t ∷ []) new here)
  permutes_in t (run ∷ runs) (suc n) old new lt at same =
      subst (λ (l : List T). IsPermutation l (run ++ tables_in (set runs n new)))
      (sym (append_assoc run (tables_in runs) (t ∷ [])))
      (IsPermutation-append_right run (tables_in runs ++ t ∷ []) (tables_in (set runs n new))
      (permutes_in t runs n old new (omega arith) at same))

  pub permutes_behind : (t : T) (items after : List (List T)) (run : List T) → run ≡ t ∷ []
      → after ≡ items ++ run ∷ [] → IsPermutation (tables_in items ++ t ∷ []) (tables_in after)
  permutes_behind t items after run only is =
      subst (λ (l : List T). IsPermutation (tables_in items ++ t ∷ []) l)
      (sym (ap tables_in is ∙ flat_map-append (λ (ts : List T). ts) items (run ∷ [])
      ∙ ap (λ l. tables_in items ++ l) (append-nil run ∙ only)))
      (IsPermutation-refl (tables_in items ++ t ∷ []))

  -- a list with one element more, in any order, is not empty
  more_than_none : (xs ys : List T) (t : T) → IsPermutation (xs ++ t ∷ []) ys → ys ≢ []
  more_than_none xs ys t same none =
      let long = length_permutation (xs ++ t ∷ []) ys same in
      let sum = length-append xs (t ∷ []) in
      absurd (omega (arith, long, sum, ap length none))

  pub not_empty_in : (t : T) (items : List (List T)) (n : ℕ) (old new : List T)
      → IsPermutation (old ++ t ∷ []) new → AreNotEmpty items → AreNotEmpty (set items n new)
  not_empty_in t [] n old new same h = tt
  not_empty_in t (run ∷ runs) zero old new same h = (more_than_none old new t same, h.1)
  not_empty_in t (run ∷ runs) (suc n) old new same h = (h.0, not_empty_in t runs n old new same h.1)

  pub not_empty_behind : (t : T) (items after : List (List T)) (run : List T) → run ≡ t ∷ []
      → after ≡ items ++ run ∷ [] → AreNotEmpty items → AreNotEmpty after
  not_empty_behind t items after run only is h = subst AreNotEmpty (sym is) (go items h)
    where
      go : (ls : List (List T)) → AreNotEmpty ls → AreNotEmpty (ls ++ run ∷ [])
      go [] k = ((λ e. let z : t ∷ [] ≡ [] = sym only ∙ e in absurd cc), tt)
      go (l ∷ ls) k = (k.0, go ls k.1)

  pub permutes_more : (start done now next : List T) (t : T) → IsPermutation (start ++ done) now
      → IsPermutation (now ++ t ∷ []) next → IsPermutation (start ++ (done ++ t ∷ [])) next
  permutes_more start done now next t before one =
      IsPermutation-trans (start ++ (done ++ t ∷ [])) (now ++ t ∷ []) next
      (subst (λ (l : List T). IsPermutation l (now ++ t ∷ [])) (append_assoc start done (t ∷ []))
      (IsPermutation-append_left (t ∷ []) (start ++ done) now before))
      one

  pub permutes_run : (done : List (List T)) (run : List T) (now next : List T)
      → IsPermutation (tables_in done) now → IsPermutation (now ++ run) next
      → IsPermutation (tables_in (done ++ run ∷ [])) next
  permutes_run done run now next before one =
      subst (λ (l : List T). IsPermutation l next)
      (sym (flat_map-append (λ (ts : List T). ts) done (run ∷ [])
      ∙ ap (λ l. tables_in done ++ l) (append-nil run)))
      (IsPermutation-trans (tables_in done ++ run) (now ++ run) next
      (IsPermutation-append_left run (tables_in done) now before) one)

  pub permutes_inserted : (old items new : List T) (n : ℕ) (t : T) → items ≡ old
      → new ≡ insert items n t → IsPermutation (old ++ t ∷ []) new
  permutes_inserted old items new n t same is =
      subst (λ (l : List T). IsPermutation (l ++ t ∷ []) new) same
      (subst (λ (l : List T). IsPermutation (items ++ t ∷ []) l) (sym is)
      (IsPermutation-trans (items ++ t ∷ []) (t ∷ items) (insert items n t)
      (IsPermutation-to_front items t) (IsPermutation-insert items n t)))

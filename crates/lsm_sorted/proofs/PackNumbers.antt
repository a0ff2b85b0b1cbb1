-- Packed runs are as few as can be: each table behind the first run overlaps one of the run before
-- it, from an earlier run of the input.
use Rattle.std.proofs.Common.{◌≡◌, refl, sym, ◌∙◌, ap, subst, ℕ, ◌<◌, true, false, List, []}
use Rattle.std.proofs.Common.{◌∷◌, ◌++◌, append_assoc, append-nil, take, drop, zero, suc, inl, inr}
use Rattle.std.specs.Prelude.{◌⊎◌, map, ◌||◌}
use Rattle.std.specs.List.{list_any, insert}
use Rattle.std.proofs.lemmas.Bool.{or_parts, cases_Bool, both_ways}
use Rattle.sst_entries.proofs.Booleans.{or_first}
use Rattle.lsm_sorted.specs.version.KeyRange.{Interval, key_le, overlaps}
use Rattle.lsm_sorted.specs.version.Run.{how_many}
use Rattle.lsm_sorted.specs.version.Packing.{tables_in, touches, with_table, put, put_all}
use Rattle.lsm_sorted.specs.version.Links.{IsElement, KeepRunOrder, EachCarriesNext, CarriesNext}
use Rattle.lsm_sorted.proofs.PackLemmas.{mem-append_left, mem-append_right, mem-append_cases}
use Rattle.lsm_sorted.proofs.PackLemmas.{any_found, overlaps_comm, untouched, put_here, put_behind}

module _ {X : Type 0} where
  mem-take : (n : ℕ) (xs : List X) (x : X) → IsElement x (take n xs) → IsElement x xs
  mem-take zero xs x h = absurd h
  mem-take (suc n) [] x h = absurd h
  mem-take (suc n) (y ∷ ys) x h = elim h [ inl e ↦ inl e | inr m ↦ inr (mem-take n ys x m) ]

  mem-drop : (n : ℕ) (xs : List X) (x : X) → IsElement x (drop n xs) → IsElement x xs
  mem-drop zero xs x h = h
  mem-drop (suc n) [] x h = absurd h
  mem-drop (suc n) (y ∷ ys) x h = inr (mem-drop n ys x h)

  mem-split : (n : ℕ) (xs : List X) (x : X) → IsElement x xs
      → IsElement x (take n xs) ⊎ IsElement x (drop n xs)
  mem-split zero xs x h = inr h
  mem-split (suc n) [] x h = absurd h
  mem-split (suc n) (y ∷ ys) x h =
      elim h [
        | inl e ↦ inl (inl e)
        | inr m ↦ elim (mem-split n ys x m) [ inl a ↦ inl (inr a) | inr b ↦ inr b ]
      ]

  -- a list with an element more has that element, and the others
  mem-insert_cases : (xs : List X) (n : ℕ) (y x : X) → IsElement x (insert xs n y)
      → IsElement x xs ⊎ (x ≡ y)
  mem-insert_cases xs n y x h =
      elim (mem-append_cases (take n xs) (y ∷ drop n xs) x h) [
        | inl a ↦ inl (mem-take n xs x a)
        | inr b ↦ elim b [ inl e ↦ inr e | inr m ↦ inl (mem-drop n xs x m) ]
      ]

  mem-insert_new : (xs : List X) (n : ℕ) (y : X) → IsElement y (insert xs n y)
  mem-insert_new xs n y = mem-append_right (take n xs) (y ∷ drop n xs) y (inl refl)

  mem-insert_old : (xs : List X) (n : ℕ) (y x : X) → IsElement x xs → IsElement x (insert xs n y)
  mem-insert_old xs n y x h =
      elim (mem-split n xs x h) [
        | inl a ↦ mem-append_left (take n xs) (y ∷ drop n xs) x a
        | inr b ↦ mem-append_right (take n xs) (y ∷ drop n xs) x (inr b)
      ]

module _ {X : Type 0} (f : X → Interval) (at : X → ℕ) where
  mem-put_cases : (t : X) (ls : List (List X)) (x : X) → IsElement x (tables_in (put f t ls))
      → IsElement x (tables_in ls) ⊎ (x ≡ t)
  mem-put_cases t [] x h = elim h [ inl e ↦ inr e | inr m ↦ absurd m ]
  mem-put_cases t (l ∷ ls) x h =
      elim (cases_Bool (touches f (f t) l || list_any (touches f (f t)) ls)) [
        | inl e ↦
            let h' : IsElement x (l ++ tables_in (put f t ls)) =
            subst (λ (k : List (List X)). IsElement x (tables_in k))
            (put_behind f t l ls e) h in
            elim (mem-append_cases l (tables_in (put f t ls)) x h') [
              | inl a ↦ inl (mem-append_left l (tables_in ls) x a)
              | inr b ↦ elim (mem-put_cases t ls x b)
                  [ inl m ↦ inl (mem-append_right l (tables_in ls) x m) | inr n ↦ inr n ]
            ]
        | inr e ↦
            let h' : IsElement x (with_table f t l ++ tables_in ls) =
            subst (λ (k : List (List X)). IsElement x (tables_in k)) (put_here f t l ls e) h in
            elim (mem-append_cases (with_table f t l) (tables_in ls) x h') [
              | inl a ↦ elim (mem-insert_cases l (how_many (λ r. key_le r.min (f t).min) (map f l))
                  t x a) [ inl m ↦ inl (mem-append_left l (tables_in ls) x m) | inr n ↦ inr n ]
              | inr b ↦ inl (mem-append_right l (tables_in ls) x b)
            ]
      ]

  mem-put_new : (t : X) (ls : List (List X)) → IsElement t (tables_in (put f t ls))
  mem-put_new t [] = inl refl
  mem-put_new t (l ∷ ls) =
      elim (cases_Bool (touches f (f t) l || list_any (touches f (f t)) ls)) [
        | inl e ↦ subst (λ (k : List (List X)). IsElement t (tables_in k))
            (sym (put_behind f t l ls e)) (mem-append_right l (tables_in (put f t ls)) t
            (mem-put_new t ls))
        | inr e ↦ subst (λ (k : List (List X)). IsElement t (tables_in k))
            (sym (put_here f t l ls e)) (mem-append_left (with_table f t l) (tables_in ls) t
            (mem-insert_new l (how_many (λ r. key_le r.min (f t).min) (map f l)) t))
      ]

  mem-put_old : (t : X) (ls : List (List X)) (x : X) → IsElement x (tables_in ls)
      → IsElement x (tables_in (put f t ls))
  mem-put_old t [] x h = absurd h
  mem-put_old t (l ∷ ls) x h =
      elim (cases_Bool (touches f (f t) l || list_any (touches f (f t)) ls)) [
        | inl e ↦ subst (λ (k : List (List X)). IsElement x (tables_in k))
            (sym (put_behind f t l ls e))
            (elim (mem-append_cases l (tables_in ls) x h) [
              | inl a ↦ mem-append_left l (tables_in (put f t ls)) x a
              | inr b ↦ mem-append_right l (tables_in (put f t ls)) x (mem-put_old t ls x b)
            ])
        | inr e ↦ subst (λ (k : List (List X)). IsElement x (tables_in k))
            (sym (put_here f t l ls e))
            (elim (mem-append_cases l (tables_in ls) x h) [
              | inl a ↦ mem-append_left (with_table f t l) (tables_in ls) x
                  (mem-insert_old l (how_many (λ r. key_le r.min (f t).min) (map f l)) t x a)
              | inr b ↦ mem-append_right (with_table f t l) (tables_in ls) x b
            ])
      ]

  -- of two elements that overlap, the later one is from a later run
  abbrev pub Rises : List X → Type 0
  Rises [] = Unit {0}
  Rises (x ∷ xs) = ((y : X) → IsElement y xs → overlaps (f x) (f y) ≡ true → at x < at y) × Rises xs

  -- an element comes from a later run than each of some that it overlaps
  abbrev pub After : X → List X → Type 0
  After t xs = (y : X) → IsElement y xs → overlaps (f y) (f t) ≡ true → at y < at t

  put_apart : (t : X) (ls : List (List X)) → After t (tables_in ls) → KeepRunOrder f at ls
      → KeepRunOrder f at (put f t ls)
  put_apart t [] later h = ((λ x y m n o. absurd n), tt)
  put_apart t (l ∷ ls) later h =
      elim (cases_Bool (touches f (f t) l || list_any (touches f (f t)) ls)) [
        | inl e ↦ subst (KeepRunOrder f at) (sym (put_behind f t l ls e)) (
          (λ x y m n o. elim (mem-put_cases t ls y n) [
            | inl k ↦ h.0 x y m k o
            | inr is ↦ subst (λ (v : X). at x < at v) (sym is)
                (later x (mem-append_left l (tables_in ls) x m)
                (subst (λ (v : X). overlaps (f x) (f v) ≡ true) is o))
          ]),
          put_apart t ls (λ y m o. later y (mem-append_right l (tables_in ls) y m) o) h.1,
        )
        | inr e ↦
            let parted = or_parts (touches f (f t) l) (list_any (touches f (f t)) ls) e in
            subst (KeepRunOrder f at) (sym (put_here f t l ls e)) (
              (λ x y m n o. elim (mem-insert_cases l (how_many (λ r. key_le r.min (f t).min)
                  (map f l)) t x m) [
                    | inl k ↦ h.0 x y k n o
                    | inr is ↦ absurd (both_ways (overlaps (f y) (f t))
                        (untouched f (f t) ls parted.1 y n) (overlaps_comm (f y) (f t)
                        ∙ subst (λ (v : X). overlaps (f v) (f y) ≡ true) is o))
                  ]),
              h.1,
            )
      ]

  touched : (t : X) (l : List X) → After t l → touches f (f t) l ≡ true
      → (x : X) × IsElement x l × (overlaps (f x) (f t) ≡ true) × (at x < at t)
  touched t l later e = let k = any_found (λ x. overlaps (f x) (f t)) l e in
      (k.0, k.1, k.2, later k.0 k.1 k.2)

  steps_put : (t : X) (l : List X) (ls : List (List X)) → After t (l ++ tables_in ls)
      → (touches f (f t) l || list_any (touches f (f t)) ls) ≡ true → CarriesNext f at l ls
      → CarriesNext f at l (put f t ls)
  steps_put t l [] later e h =
      λ y m. elim m [
        | inl is ↦
            let k = touched t l (λ x n o. later x (mem-append_left l [] x n) o)
            (or_first (touches f (f t) l) false e refl) in (
              k.0,
              k.1,
              ap (λ v. overlaps (f k.0) (f v)) is
                  ∙ k.2,
              subst (λ (v : X). at k.0 < at v) (sym is) k.3,
            )
        | inr n ↦ absurd n
      ]
  steps_put t l (m ∷ ms) later e h =
      elim (cases_Bool (touches f (f t) m || list_any (touches f (f t)) ms)) [
        | inl e2 ↦ subst (CarriesNext f at l) (sym (put_behind f t m ms e2)) h
        | inr e2 ↦ subst (CarriesNext f at l) (sym (put_here f t m ms e2))
            (λ y n. elim (mem-insert_cases m (how_many (λ r. key_le r.min (f t).min) (map f m)) t y
            n) [
              | inl old ↦ h y old
              | inr is ↦
                  let k = touched t l (λ x n o. later x
                  (mem-append_left l (tables_in (m ∷ ms)) x n) o)
                  (or_first (touches f (f t) l) (list_any (touches f (f t)) (m ∷ ms)) e e2) in (
                    k.0,
                    k.1,
                    ap (λ v. overlaps (f k.0) (f v)) is
                        ∙ k.2,
                    subst (λ (v : X). at k.0 < at v) (sym is) k.3,
                  )
            ])
      ]

  put_steps : (t : X) (ls : List (List X)) → After t (tables_in ls) → EachCarriesNext f at ls
      → EachCarriesNext f at (put f t ls)
  put_steps t [] later h = (tt, tt)
  put_steps t (l ∷ ls) later h =
      elim (cases_Bool (touches f (f t) l || list_any (touches f (f t)) ls)) [
        | inl e ↦ subst (EachCarriesNext f at) (sym (put_behind f t l ls e)) (
          steps_put t l ls later e h.0,
          put_steps t ls
              (λ y m o. later y (mem-append_right l (tables_in ls) y m) o) h.1,
        )
        | inr e ↦ subst (EachCarriesNext f at) (sym (put_here f t l ls e)) (wider ls h.0, h.1)
      ]
    where
      wider : (ms : List (List X)) → CarriesNext f at l ms → CarriesNext f at (with_table f t l) ms
      wider [] k = tt
      wider (m ∷ ms) k = λ y n. let s = k y n in (
        s.0,
        mem-insert_old l
            (how_many (λ r. key_le r.min (f t).min) (map f l)) t s.0 s.1,
        s.2,
        s.3,
      )

  -- what holds of the levels once all elements are put in
  pub record Stacked (ts : List X) (ls : List (List X)) : Type 0 where
    pub keeps_order : KeepRunOrder f at ls
    pub carries : EachCarriesNext f at ls
    pub from : (x : X) → IsElement x (tables_in ls) → IsElement x ts
    pub has : (x : X) → IsElement x ts → IsElement x (tables_in ls)

  stack : (done ts : List X) (ls : List (List X)) → Stacked done ls → Rises ts
      → ((t : X) → IsElement t ts → After t done) → Stacked (done ++ ts) (put_all f ts ls)
  stack done [] ls s r later = subst (λ (k : List X). Stacked k ls) (sym (append-nil done)) s
  stack done (t ∷ ts) ls s r later =
      let after : After t (tables_in ls) = λ y m o. later t (inl refl) y (s.from y m) o in
      let next : Stacked (done ++ t ∷ []) (put f t ls) = record {
        keeps_order = put_apart t ls after s.keeps_order;
        carries = put_steps t ls after s.carries;
        from = λ x m. elim (mem-put_cases t ls x m) [
          | inl k ↦ mem-append_left done (t ∷ []) x (s.from x k)
          | inr e ↦
              mem-append_right done (t ∷ []) x (inl e)
        ];
        has = λ x m. elim (mem-append_cases done (t ∷ []) x m) [
          | inl k ↦ mem-put_old t ls x (s.has x k)
          | inr k ↦ elim k [
            | inl e ↦ subst (λ (v : X). IsElement v (tables_in (put f t ls))) (sym e)
                (mem-put_new t ls)
            | inr n ↦ absurd n
          ]
        ];
      } in
      subst (λ (k : List X). Stacked k (put_all f ts (put f t ls))) (append_assoc done (t ∷ []) ts)
      (stack (done ++ t ∷ []) ts (put f t ls) next r.1
      (λ u m y n o. elim (mem-append_cases done (t ∷ []) y n) [
        | inl k ↦ later u (inr m) y k o
        | inr k ↦ elim k [
          | inl e ↦ subst (λ (v : X). at v < at u) (sym e)
              (r.0 u m (subst (λ (v : X). overlaps (f v) (f u) ≡ true) e o))
          | inr z ↦ absurd z
        ]
      ]))

  pub stacked : (ts : List X) → Rises ts → Stacked ts (put_all f ts [])
  stacked ts r = stack [] ts [] (record {
    keeps_order = tt;
    carries = tt;
    from =
        λ x m. absurd m;
    has = λ x m. absurd m;
  }) r (λ t m y n o. absurd n)

-- The number of packed runs is the least size of a placement.
use Rattle.std.proofs.Common.{◌≡◌, refl, sym, ◌∙◌, ap, subst, ℕ, ◌<◌, ◌≤◌, ◌+◌, Bool, true, false}
use Rattle.std.proofs.Common.{cond, List, [], ◌∷◌, ◌++◌, length, take, drop, get_or, zero, suc, inl}
use Rattle.std.proofs.Common.{inr, arith, Some}
use Rattle.std.specs.Prelude.{◌≢◌, map, not, ◌&&◌, ◌||◌, ◌==◌, nat_le, Contains, slice_get}
use Rattle.std.specs.List.{list_all, list_any, AllByRecursion, insert}
use Rattle.std.proofs.lemmas.Bool.{and_parts, and_from, cases_Bool, both_ways, eqb-true, eq-eqb}
use Rattle.std.proofs.lemmas.Bool.{leb-true, le-leb, lt-leb, not-true}
use Rattle.std.proofs.lemmas.List.{length-map}
use Rattle.std.proofs.Math.Bool.{or_assoc}
use Rattle.sst_entries.specs.Key.{key_lt}
use Rattle.lsm_sorted.specs.version.KeyRange.{Interval, key_le, overlaps, are_disjoint}
use Rattle.lsm_sorted.specs.version.Run.{are_in_order, how_many}
use Rattle.lsm_sorted.specs.version.Packing.{tables_in, table_at, touches, with_table, put, put_all}
use Rattle.lsm_sorted.specs.version.Packing.{ArePacked, AreTablesWellFormed, AreDisjointRuns}
use Rattle.lsm_sorted.specs.version.Packing.{IsLeastSize}
use Rattle.lsm_sorted.proofs.IntervalLemmas.{le_from}
use Rattle.lsm_sorted.proofs.RunLemmas.{parts}
use Rattle.lsm_sorted.proofs.PackLemmas.{mem-append_left, mem-append_right, mem-append_cases}
use Rattle.lsm_sorted.proofs.PackLemmas.{any_fails, any_found, any_from, overlaps_comm}
use Rattle.lsm_sorted.proofs.PackLemmas.{put_all_packed, put_here, put_behind}
use Rattle.lsm_sorted.specs.version.Links.{IsElement, TableWithPlace, table_with_place}
use Rattle.lsm_sorted.specs.version.Links.{run_with_places}
use Rattle.lsm_sorted.specs.version.Links.{runs_with_places, KeepRunOrder, EachCarriesNext}
use Rattle.lsm_sorted.specs.version.Links.{CarriesNext}
use Rattle.lsm_sorted.proofs.PackNumbers.{Rises, Stacked, stacked}

-- how many numbers are at most m
upto : List ℕ → ℕ → ℕ
upto [] m = 0
upto (n ∷ ns) m = cond (nat_le n m) (suc (upto ns m)) (upto ns m)

upto-length : (ns : List ℕ) (m : ℕ) → upto ns m ≤ length ns
unfolding upto
upto-length [] m = omega arith
upto-length (n ∷ ns) m =
    let h = upto-length ns m in
    elim (cases_Bool (nat_le n m)) [
      | inl e ↦ rw e (omega (arith, h))
      | inr e ↦ rw e (omega (arith, h))
    ]

upto-more : (ns : List ℕ) (a b : ℕ) → a ≤ b → upto ns a ≤ upto ns b
unfolding upto
upto-more [] a b le = omega arith
upto-more (n ∷ ns) a b le =
    let h = upto-more ns a b le in
    elim (cases_Bool (nat_le n a)) [
      | inl e ↦ let f : nat_le n b ≡ true = le-leb n b (omega (arith, leb-true n a e)) in
          rw (e, f) (omega (arith, h))
      | inr e ↦
          elim (cases_Bool (nat_le n b)) [
            | inl f ↦ rw (e, f) (omega (arith, h))
            | inr f ↦ rw (e, f) h
          ]
    ]

-- a number of the list that is above a is counted up to itself
upto-grows : (ns : List ℕ) (a b k : ℕ) → a < b → k < length ns → get_or ns k b ≡ b
    → upto ns a + 1 ≤ upto ns b
unfolding upto
upto-grows [] a b k lt within at = absurd (omega arith)
upto-grows (n ∷ ns) a b zero lt within at =
    let low : nat_le n a ≡ false = lt-leb n a (omega (arith, at)) in
    let high : nat_le n b ≡ true = le-leb n b (omega (arith, at)) in
    let h = upto-more ns a b (omega arith) in
    rw (low, high) (omega (arith, h))
upto-grows (n ∷ ns) a b (suc k) lt within at =
    let h = upto-grows ns a b k lt (omega arith) at in
    elim (cases_Bool (nat_le n a)) [
      | inl e ↦ let f : nat_le n b ≡ true = le-leb n b (omega (arith, leb-true n a e)) in
          rw (e, f) (omega (arith, h))
      | inr e ↦
          elim (cases_Bool (nat_le n b)) [
            | inl f ↦ rw (e, f) (omega (arith, h))
            | inr f ↦ rw (e, f) h
          ]
    ]

upto-some : (ns : List ℕ) (b k : ℕ) → k < length ns → get_or ns k b ≡ b → 1 ≤ upto ns b
unfolding upto
upto-some [] b k within at = absurd (omega arith)
upto-some (n ∷ ns) b zero within at =
    let high : nat_le n b ≡ true = le-leb n b (omega (arith, at)) in
    rw high (omega arith)
upto-some (n ∷ ns) b (suc k) within at =
    let h = upto-some ns b k (omega arith) at in
    elim (cases_Bool (nat_le n b)) [
      | inl f ↦ rw f (omega (arith, h))
      | inr f ↦ rw f h
    ]

module _ {X : Type 0} (f : X → Interval) (at : X → ℕ) where
  head_of : (l : List X) → l ≢ [] → (x : X) × IsElement x l
  head_of [] h = absurd (h refl)
  head_of (x ∷ xs) h = (x, inl refl)

  -- each level has an element whose number is above as many numbers as there are levels before it
  climb : (N : X → ℕ) (ns : List ℕ) (l : List X) (ls : List (List X)) (k : ℕ)
      → ((x y : X) → IsElement x (l ++ tables_in ls) → IsElement y (l ++ tables_in ls)
      → overlaps (f x) (f y) ≡ true → at x < at y → N x < N y)
      → ((x : X) → IsElement x (l ++ tables_in ls) → Contains ns (N x))
      → ((x : X) → IsElement x l → k ≤ upto ns (N x)) → l ≢ [] → ArePacked f ls
      → CarriesNext f at l ls → EachCarriesNext f at ls → k + length ls ≤ length ns
  climb N ns l [] k grows among counted some packed steps rest =
      let x = head_of l some in
      omega (arith, counted x.0 x.1, upto-length ns (N x.0))
  climb N ns l (m ∷ ms) k grows among counted some packed steps rest =
      let next : suc k + length ms ≤ length ns =
      climb N ns m ms (suc k)
      (λ x y p q. grows x y (mem-append_right l (m ++ tables_in ms) x p)
      (mem-append_right l (m ++ tables_in ms) y q))
      (λ x p. among x (mem-append_right l (m ++ tables_in ms) x p))
      (λ y p.
      let s = steps y p in
      let mem_s = mem-append_left l (m ++ tables_in ms) s.0 s.1 in
      let mem_y = mem-append_right l (m ++ tables_in ms) y (mem-append_left m (tables_in ms) y p) in
      let lower = grows s.0 y mem_s mem_y s.2 s.3 in
      let y_in = among y mem_y in
      omega (arith, counted s.0 s.1, upto-grows ns (N s.0) (N y) y_in.0 lower y_in.1 y_in.2))
      packed.0.1 packed.1 rest.0 rest.1 in
      omega (arith, next)

  -- no list of fewer numbers than levels holds the numbers of all elements
  pub at_least : (N : X → ℕ) (ns : List ℕ) (ls : List (List X))
      → ((x y : X) → IsElement x (tables_in ls) → IsElement y (tables_in ls)
      → overlaps (f x) (f y) ≡ true → at x < at y → N x < N y)
      → ((x : X) → IsElement x (tables_in ls) → Contains ns (N x)) → ArePacked f ls
      → EachCarriesNext f at ls → length ls ≤ length ns
  at_least N ns [] grows among packed steps = omega arith
  at_least N ns (l ∷ ls) grows among packed steps =
      let up : 1 + length ls ≤ length ns =
      climb N ns l ls 1 grows among
      (λ x p. let x_in = among x (mem-append_left l (tables_in ls) x p) in
      upto-some ns (N x) x_in.0 x_in.1 x_in.2)
      packed.0.1 packed.1 steps.0 steps.1 in
      omega (arith, up)

any-append : {X : Type 0} (p : X → Bool) (xs ys : List X)
    → list_any p (xs ++ ys) ≡ (list_any p xs || list_any p ys)
any-append p [] ys = refl
any-append p (x ∷ xs) ys = ap (λ b. p x || b) (any-append p xs ys)
    ∙ sym (or_assoc (p x) (list_any p xs) (list_any p ys))

module _ {X : Type 0} (f : X → Interval) (at : X → ℕ) where
  all_later : (p : Interval → Bool) (xs : List X) → list_all p (map f xs) ≡ true → (y : X)
      → IsElement y xs → p (f y) ≡ true
  all_later p [] h y m = absurd m
  all_later p (x ∷ xs) h y m =
      let k = and_parts (p (f x)) (list_all p (map f xs)) h in
      elim m [ inl e ↦ ap (λ v. p (f v)) e ∙ k.0 | inr n ↦ all_later p xs k.1 y n ]

  clash : (x y : X) → key_lt (f x).max (f y).min ≡ true → overlaps (f x) (f y) ≡ true → ⊥
  clash x y lt o = both_ways (key_lt (f x).max (f y).min)
      (le_from (f y).min (f x).max (and_parts (key_le (f y).min (f x).max)
      (key_le (f x).min (f y).max) o).0) lt

  -- in a run that is in order, only a table itself overlaps it
  same_in_order : (l : List X) → are_in_order (map f l) ≡ true → (x y : X) → IsElement x l
      → IsElement y l → overlaps (f x) (f y) ≡ true → x ≡ y
  same_in_order [] h x y m n o = absurd m
  same_in_order (z ∷ zs) h x y m n o =
      let k = parts (f z) (map f zs) h in
      elim m [
        | inl e ↦
            elim n [
              | inl g ↦ e ∙ sym g
              | inr b ↦ absurd (clash z y (all_later (λ later. key_lt (f z).max later.min) zs
                  k.before y b) (subst (λ (v : X). overlaps (f v) (f y) ≡ true) e o))
            ]
        | inr a ↦
            elim n [
              | inl g ↦ absurd (clash z x (all_later (λ later. key_lt (f z).max later.min) zs
                  k.before x a) (overlaps_comm (f z) (f x)
                  ∙ subst (λ (v : X). overlaps (f x) (f v) ≡ true) g o))
              | inr b ↦ same_in_order zs k.rest x y a b o
            ]
      ]

  -- the first level with an element that passes
  level_of : (X → Bool) → List (List X) → ℕ
  level_of p [] = 0
  level_of p (l ∷ ls) = cond (list_any p l) 0 (suc (level_of p ls))

  level_below : (p : X → Bool) (ls : List (List X)) → list_any p (tables_in ls) ≡ true
      → level_of p ls < length ls
  unfolding level_of
  level_below p [] h = absurd cc
  level_below p (l ∷ ls) h =
      elim (cases_Bool (list_any p l)) [
        | inl e ↦ rw e (omega arith)
        | inr e ↦
            let there : list_any p (tables_in ls) ≡ true =
            rw e at (sym (any-append p l (tables_in ls)) ∙ h) in
            let low = level_below p ls there in
            rw e (omega (arith, low))
      ]

  -- of elements that overlap, the one from the later run is in a later level
  level_rises : (p q : X → Bool) (ls : List (List X))
      → ((x y : X) → IsElement x (tables_in ls) → IsElement y (tables_in ls) → p x ≡ true
      → q y ≡ true → (overlaps (f x) (f y) ≡ true) × (at x < at y)) → KeepRunOrder f at ls
      → ArePacked f ls → list_any p (tables_in ls) ≡ true → list_any q (tables_in ls) ≡ true
      → level_of p ls < level_of q ls
  unfolding level_of
  level_rises p q [] pairs apart packed hp hq = absurd cc
  level_rises p q (l ∷ ls) pairs apart packed hp hq =
      elim (cases_Bool (list_any p l)) [
        | inl e ↦
            elim (cases_Bool (list_any q l)) [
              | inl g ↦
                  let x = any_found p l e in
                  let y = any_found q l g in
                  let k = pairs x.0 y.0 (mem-append_left l (tables_in ls) x.0 x.1)
                  (mem-append_left l (tables_in ls) y.0 y.1) x.2 y.2 in
                  let same = same_in_order l packed.0.0 x.0 y.0 x.1 y.1 k.0 in
                  absurd (omega (arith, k.1, ap at same))
              | inr g ↦ rw (e, g) (omega arith)
            ]
        | inr e ↦
            let p_there : list_any p (tables_in ls) ≡ true =
            rw e at (sym (any-append p l (tables_in ls)) ∙ hp) in
            elim (cases_Bool (list_any q l)) [
              | inl g ↦
                  let x = any_found p (tables_in ls) p_there in
                  let y = any_found q l g in
                  let k = pairs x.0 y.0 (mem-append_right l (tables_in ls) x.0 x.1)
                  (mem-append_left l (tables_in ls) y.0 y.1) x.2 y.2 in
                  let back = apart.0 y.0 x.0 y.1 x.1 (overlaps_comm (f y.0) (f x.0) ∙ k.0) in
                  absurd (omega (arith, k.1, back))
              | inr g ↦
                  let q_there : list_any q (tables_in ls) ≡ true =
                  rw g at (sym (any-append q l (tables_in ls)) ∙ hq) in
                  let low = level_rises p q ls (λ x y m n. pairs x y
                  (mem-append_right l (tables_in ls) x m)
                  (mem-append_right l (tables_in ls) y n)) apart.1 packed.1 p_there q_there in
                  rw (e, g) (omega (arith, low))
            ]
      ]

map-append : {Y Z : Type 0} (h : Y → Z) (xs ys : List Y) → map h (xs ++ ys) ≡ map h xs ++ map h ys
map-append h [] ys = refl
map-append h (x ∷ xs) ys = ap (λ l. h x ∷ l) (map-append h xs ys)

module _ {T : Type 0} where
  -- a table with its places, of those of a run, is a table of it
  in_run : (i j : ℕ) (ts : List T) (x : TableWithPlace T) → IsElement x (run_with_places i j ts)
      → (x.run ≡ i) × ((m : ℕ) × (x.place ≡ j + m) × (slice_get ts m ≡ Some x.table))
  in_run i j [] x h = absurd h
  in_run i j (t ∷ ts) x h =
      elim h [
        | inl e ↦ (
          ap (λ v. v.run) e,
          (
            0,
            ap (λ v. v.place) e
                ∙ omega arith,
            ap (λ v. Some v.table) (sym e),
          ),
        )
        | inr m ↦ let k = in_run i (suc j) ts x m in (k.0, (suc k.1.0, k.1.1 ∙ omega arith, k.1.2))
      ]

  in_runs : (i : ℕ) (runs : List (List T)) (x : TableWithPlace T)
      → IsElement x (runs_with_places i runs)
      → (n : ℕ) × (x.run ≡ i + n) × (table_at runs n x.place ≡ Some x.table)
  in_runs i [] x h = absurd h
  in_runs i (run ∷ runs) x h =
      elim (mem-append_cases (run_with_places i 0 run) (runs_with_places (suc i) runs) x h) [
        | inl a ↦
            let k = in_run i 0 run x a in
            let place : x.place ≡ k.1.0 = k.1.1 ∙ omega arith in
            (0, k.0 ∙ omega arith, ap (λ m. slice_get run m) place ∙ k.1.2)
        | inr b ↦ let k = in_runs (suc i) runs x b in (suc k.0, k.1 ∙ omega arith, k.2)
      ]

  pub is_at_place : (runs : List (List T)) (x : TableWithPlace T)
      → IsElement x (runs_with_places 0 runs) → table_at runs x.run x.place ≡ Some x.table
  is_at_place runs x h =
      let k = in_runs 0 runs x h in
      let run : x.run ≡ k.0 = k.1 ∙ omega arith in
      ap (λ n. table_at runs n x.place) run ∙ k.2

  -- each table is there with its places
  has_in_run : (i j m : ℕ) (ts : List T) (t : T) → slice_get ts m ≡ Some t
      → IsElement (table_with_place t i (j + m)) (run_with_places i j ts)
  has_in_run i j m [] t h = absurd cc
  has_in_run i j zero (x ∷ xs) t h = let e : x ≡ t = cc in let n : j + 0 ≡ j = omega arith in
      inl (ap (λ v. table_with_place v i (j + 0)) (sym e) ∙ ap (λ v. table_with_place x i v) n)
  has_in_run i j (suc m) (x ∷ xs) t h = let n : suc j + m ≡ j + suc m = omega arith in
      inr (subst (λ (v : ℕ). IsElement (table_with_place t i v) (run_with_places i (suc j) xs)) n
      (has_in_run i (suc j) m xs t h))

  has_in_runs : (i n m : ℕ) (runs : List (List T)) (t : T) → table_at runs n m ≡ Some t
      → IsElement (table_with_place t (i + n) m) (runs_with_places i runs)
  has_in_runs i n m [] t h = absurd cc
  has_in_runs i zero m (run ∷ runs) t h =
      let a : i ≡ i + 0 = omega arith in
      let b : 0 + m ≡ m = omega arith in
      mem-append_left (run_with_places i 0 run) (runs_with_places (suc i) runs)
      (table_with_place t (i + 0) m)
      (subst (λ (v : ℕ). IsElement (table_with_place t v m) (run_with_places i 0 run)) a
      (subst (λ (v : ℕ). IsElement (table_with_place t i v) (run_with_places i 0 run)) b
      (has_in_run i 0 m run t h)))
  has_in_runs i (suc n) m (run ∷ runs) t h =
      let a : suc i + n ≡ i + suc n = omega arith in
      mem-append_right (run_with_places i 0 run) (runs_with_places (suc i) runs)
      (table_with_place t (i + suc n) m)
      (subst (λ (v : ℕ). IsElement (table_with_place t v m) (runs_with_places (suc i) runs)) a
      (has_in_runs (suc i) n m runs t h))

  pub has_table : (runs : List (List T)) (i j : ℕ) (t : T) → table_at runs i j ≡ Some t
      → IsElement (table_with_place t i j) (runs_with_places 0 runs)
  has_table runs i j t h = let a : 0 + i ≡ i = omega arith in
      subst (λ (v : ℕ). IsElement (table_with_place t v j) (runs_with_places 0 runs)) a
      (has_in_runs 0 i j runs t h)

  without_places : (i j : ℕ) (ts : List T) → map (λ x. x.table) (run_with_places i j ts) ≡ ts
  without_places i j [] = refl
  without_places i j (t ∷ ts) = ap (λ l. t ∷ l) (without_places i (suc j) ts)

  pub tables_with_places : (i : ℕ) (runs : List (List T))
      → map (λ x. x.table) (runs_with_places i runs) ≡ tables_in runs
  tables_with_places i [] = refl
  tables_with_places i (run ∷ runs) =
      map-append (λ (x : TableWithPlace T). x.table) (run_with_places i 0 run)
      (runs_with_places (suc i) runs)
      ∙ ap (λ l. l ++ map (λ x. x.table) (runs_with_places (suc i) runs)) (without_places i 0 run)
      ∙ ap (λ l. run ++ l) (tables_with_places (suc i) runs)

module _ {T : Type 0} (range : T → Interval) where
  abbrev range_of : TableWithPlace T → Interval
  range_of x = range x.table

  abbrev run_of : TableWithPlace T → ℕ
  run_of x = x.run

  mem_range : (i j : ℕ) (ts : List T) (x : TableWithPlace T) → IsElement x (run_with_places i j ts)
      → IsElement (range x.table) (map range ts)
  mem_range i j [] x h = absurd h
  mem_range i j (t ∷ ts) x h = elim h [
    | inl e ↦ inl (ap (λ v. range v.table) e)
    | inr m ↦
        inr (mem_range i (suc j) ts x m)
  ]

  rises_in : (i j : ℕ) (ts : List T) → are_disjoint (map range ts) ≡ true
      → Rises range_of run_of (run_with_places i j ts)
  rises_in i j [] h = tt
  rises_in i j (t ∷ ts) h =
      let k = and_parts (not (list_any (overlaps (range t)) (map range ts)))
      (are_disjoint (map range ts)) h in (
        (λ y m o. absurd (both_ways (overlaps (range t) (range y.table))
            (any_fails (overlaps (range t)) (map range ts)
            (not-true (list_any (overlaps (range t)) (map range ts)) k.0) (range y.table)
            (mem_range i (suc j) ts y m)) o)),
        rises_in i (suc j) ts k.1,
      )

  rises-append : (xs ys : List (TableWithPlace T)) → Rises range_of run_of xs
      → Rises range_of run_of ys
      → ((x y : TableWithPlace T) → IsElement x xs → IsElement y ys → x.run < y.run)
      → Rises range_of run_of (xs ++ ys)
  rises-append [] ys rx ry later = ry
  rises-append (x ∷ xs) ys rx ry later = (
    (λ y m o. elim (mem-append_cases xs ys y m) [
      | inl a ↦ rx.0 y a o
      | inr b ↦
          later x y (inl refl) b
    ]),
    rises-append xs ys rx.1 ry (λ u v m n. later u v (inr m) n),
  )

  pub rises_all : (i : ℕ) (runs : List (List T))
      → AllByRecursion (λ run. are_disjoint (map range run) ≡ true) runs
      → Rises range_of run_of (runs_with_places i runs)
  rises_all i [] h = tt
  rises_all i (run ∷ runs) h =
      rises-append (run_with_places i 0 run) (runs_with_places (suc i) runs) (rises_in i 0 run h.0)
      (rises_all (suc i) runs h.1)
      (λ x y m n. let a = in_run i 0 run x m in let b = in_runs (suc i) runs y n in
      omega (arith, a.0, b.1))

  pub formed-map : {X : Type 0} (g : X → T) (xs : List X) → AreTablesWellFormed range (map g xs)
      → AreTablesWellFormed (λ x. range (g x)) xs
  formed-map g [] h = tt
  formed-map g (x ∷ xs) h = (h.0, formed-map g xs h.1)

module _ {X T : Type 0} (g : X → T) (range : T → Interval) where
  map-take : (n : ℕ) (xs : List X) → map g (take n xs) ≡ take n (map g xs)
  map-take zero xs = refl
  map-take (suc n) [] = refl
  map-take (suc n) (x ∷ xs) = ap (λ l. g x ∷ l) (map-take n xs)

  map-drop : (n : ℕ) (xs : List X) → map g (drop n xs) ≡ drop n (map g xs)
  map-drop zero xs = refl
  map-drop (suc n) [] = refl
  map-drop (suc n) (x ∷ xs) = map-drop n xs

  map-map : (xs : List X) → map range (map g xs) ≡ map (λ x. range (g x)) xs
  map-map [] = refl
  map-map (x ∷ xs) = ap (λ l. range (g x) ∷ l) (map-map xs)

  with_table-map : (x : X) (run : List X)
      → map g (with_table (λ v. range (g v)) x run) ≡ with_table range (g x) (map g run)
  with_table-map x run =
      let n = how_many (λ r. key_le r.min (range (g x)).min) (map (λ v. range (g v)) run) in
      map-append g (take n run) (x ∷ drop n run)
      ∙ ap (λ l. l ++ g x ∷ map g (drop n run)) (map-take n run)
      ∙ ap (λ l. take n (map g run) ++ g x ∷ l) (map-drop n run)
      ∙ ap (λ rs. insert (map g run) (how_many (λ r. key_le r.min (range (g x)).min) rs) (g x))
      (sym (map-map run))

  touches-map : (r : Interval) (run : List X)
      → touches (λ v. range (g v)) r run ≡ touches range r (map g run)
  touches-map r [] = refl
  touches-map r (x ∷ xs) = ap (λ b. overlaps (range (g x)) r || b) (touches-map r xs)

  any_touches-map : (r : Interval) (ls : List (List X))
      → list_any (touches (λ v. range (g v)) r) ls ≡ list_any (touches range r) (map (map g) ls)
  any_touches-map r [] = refl
  any_touches-map r (l ∷ ls) = ap (λ b. b || list_any (touches (λ v. range (g v)) r) ls)
      (touches-map r l) ∙ ap (λ b. touches range r (map g l) || b) (any_touches-map r ls)

  put-map : (x : X) (ls : List (List X))
      → map (map g) (put (λ v. range (g v)) x ls) ≡ put range (g x) (map (map g) ls)
  put-map x [] = refl
  put-map x (l ∷ ls) =
      let r = range (g x) in
      let same : (touches (λ v. range (g v)) r l || list_any (touches (λ v. range (g v)) r) ls)
      ≡ (touches range r (map g l) || list_any (touches range r) (map (map g) ls)) =
      ap (λ b. b || list_any (touches (λ v. range (g v)) r) ls) (touches-map r l)
      ∙ ap (λ b. touches range r (map g l) || b) (any_touches-map r ls) in
      elim (cases_Bool (touches (λ v. range (g v)) (range (g x)) l
      || list_any (touches (λ v. range (g v)) (range (g x))) ls)) [
        | inl e ↦
            ap (map (map g)) (put_behind (λ v. range (g v)) x l ls e)
            ∙ ap (λ rs. map g l ∷ rs) (put-map x ls)
            ∙ sym (put_behind range (g x) (map g l) (map (map g) ls) (sym same ∙ e))
        | inr e ↦
            ap (map (map g)) (put_here (λ v. range (g v)) x l ls e)
            ∙ ap (λ run. run ∷ map (map g) ls) (with_table-map x l)
            ∙ sym (put_here range (g x) (map g l) (map (map g) ls) (sym same ∙ e))
      ]

  pub put_all-map : (xs : List X) (ls : List (List X))
      → map (map g) (put_all (λ v. range (g v)) xs ls) ≡ put_all range (map g xs) (map (map g) ls)
  put_all-map [] ls = refl
  put_all-map (x ∷ xs) ls = put_all-map xs (put (λ v. range (g v)) x ls)
      ∙ ap (λ rs. put_all range (map g xs) rs) (put-map x ls)

module _ {T : Type 0} (range : T → Interval) (runs : List (List T))
    (h : AreDisjointRuns range runs) where
  levels : List (List (TableWithPlace T))
  levels = put_all (range_of range) (runs_with_places 0 runs) []

  levels_stacked : Stacked (range_of range) (run_of range) (runs_with_places 0 runs) levels
  unfolding levels
  levels_stacked = stacked (range_of range) (run_of range) (runs_with_places 0 runs)
      (rises_all range 0 runs h.apart)

  levels_packed : ArePacked (range_of range) levels
  unfolding levels
  levels_packed =
      put_all_packed (range_of range) (runs_with_places 0 runs) []
      (formed-map range (λ (x : TableWithPlace T). x.table) (runs_with_places 0 runs)
      (subst (AreTablesWellFormed range) (sym (tables_with_places 0 runs)) h.formed)) tt

  size_is : length levels ≡ length (put_all range (tables_in runs) [])
  unfolding levels
  size_is =
      sym (length-map (put_all (range_of range) (runs_with_places 0 runs) [])
      (map (λ (x : TableWithPlace T). x.table)))
      ∙ ap length (put_all-map (λ (x : TableWithPlace T). x.table) range
      (runs_with_places 0 runs) [] ∙ ap (λ ts. put_all range ts []) (tables_with_places 0 runs))

  is_at : ℕ → ℕ → TableWithPlace T → Bool
  is_at i j x = (x.run == i) && (x.place == j)

  is_at_itself : (t : T) (i j : ℕ) → is_at i j (table_with_place t i j) ≡ true
  unfolding is_at
  is_at_itself t i j = and_from (i == i) (j == j) (eq-eqb i i refl) (eq-eqb j j refl)

  -- the table at a place
  table_is : (x : TableWithPlace T) (i j : ℕ) (t : T) → IsElement x (runs_with_places 0 runs)
      → is_at i j x ≡ true → table_at runs i j ≡ Some t → (x.table ≡ t) × (x.run ≡ i)
  unfolding is_at
  table_is x i j t m e a =
      let k = and_parts (x.run == i) (x.place == j) e in
      let run : x.run ≡ i = eqb-true x.run i k.0 in
      let place : x.place ≡ j = eqb-true x.place j k.1 in
      let found = is_at_place runs x m in
      let there : Some x.table ≡ Some t = sym found ∙ ap (λ v. table_at runs v x.place) run
      ∙ ap (λ v. table_at runs i v) place ∙ a in
      (cc, run)

  found_at : (i j : ℕ) (t : T) → table_at runs i j ≡ Some t
      → list_any (is_at i j) (tables_in levels) ≡ true
  found_at i j t a = any_from (is_at i j) (tables_in levels) (table_with_place t i j)
      (levels_stacked.has (table_with_place t i j) (has_table runs i j t a)) (is_at_itself t i j)

  least_levels : IsLeastSize range runs (length levels)
  least_levels = record {
    at_least = λ number ns placement holds.
        at_least (range_of range) (run_of range) (λ x. number x.run x.place) ns levels
        (λ x y p q o lt. placement.keeps x.run x.place y.run y.place x.table y.table lt
        (is_at_place runs x (levels_stacked.from x p))
        (is_at_place runs y (levels_stacked.from y q)) o)
        (λ x p. holds x.run x.place x.table (is_at_place runs x (levels_stacked.from x p)))
        levels_packed levels_stacked.carries;
    reached = (
      (λ i j. level_of (range_of range) (run_of range) (is_at i j) levels),
      record {
        keeps = λ i j i' j' t t' lt a b o.
            level_rises (range_of range) (run_of range) (is_at i j) (is_at i' j') levels
            (λ x y m n px qy.
            let k = table_is x i j t (levels_stacked.from x m) px a in
            let l = table_is y i' j' t' (levels_stacked.from y n) qy b in (
              ap (λ v. overlaps (range v) (range y.table)) k.0
                  ∙ ap (λ v. overlaps (range t) (range v)) l.0 ∙ o,
              omega (arith, k.1, l.1, lt),
            ))
            levels_stacked.keeps_order levels_packed (found_at i j t a) (found_at i' j' t' b);
      },
      (λ i j t a. level_below (range_of range) (run_of range) (is_at i j) levels
          (found_at i j t a)),
    );
  }

  pub least_size : IsLeastSize range runs (length (put_all range (tables_in runs) []))
  least_size = subst (IsLeastSize range runs) size_is least_levels

-- of one run or none, each table can have the same number
pub least_single : {T : Type 0} (range : T → Interval) (runs : List (List T)) → length runs ≤ 1
    → AreDisjointRuns range runs → IsLeastSize range runs (length runs)
least_single range [] le h = record {
  at_least = λ number ns placement holds. omega arith;
  reached = (
    (λ i j. 0),
    record { keeps = λ i j i' j' t t' lt a b o. absurd cc },
    (λ i j t a. absurd cc),
  );
}
least_single range ([] ∷ []) le h = absurd (h.some.0 refl)
least_single {T = T} range ((t ∷ ts) ∷ []) le h = record {
  at_least = λ number ns placement holds. let k = holds 0 0 t refl in omega (arith, k.1);
  reached = (
    (λ i j. 0),
    record {
      keeps = λ i j i' j' u u' lt a b o. absurd
          (past i i' j' u' lt b);
    },
    (λ i j u a. omega arith),
  );
}
  where
    past : (i i' j' : ℕ) (u' : T) → i < i' → table_at ((t ∷ ts) ∷ []) i' j' ≡ Some u' → ⊥
    past i zero j' u' lt b = omega arith
    past i (suc i') j' u' lt b = cc
least_single range (run ∷ other ∷ runs) le h = absurd (omega arith)

-- Links: tables with their places, packed one after the other, and the walk down the packed runs.
use Rattle.std.proofs.Common.{◌≡◌, refl, sym, ◌∙◌, ap, subst, ℕ, ◌<◌, ◌≤◌, ◌+◌, Bool, true, false}
use Rattle.std.proofs.Common.{List, [], ◌∷◌, ◌++◌, append_assoc, append-nil, zero-add, length, take}
use Rattle.std.proofs.Common.{get_or, zero, suc, inl, inr, arith, Some, None}
use Rattle.std.specs.Prelude.{filter, Contains, slice_get, IsPermutation}
use Rattle.std.specs.List.{list_any}
use Rattle.std.proofs.lemmas.Bool.{cases_Bool}
use Rattle.std.proofs.lemmas.List.{take_more, take_all, length-take-le}
use Rattle.std.proofs.lemmas.List.Sorted.{IsPermutation-trans, IsPermutation-append_left}
use Rattle.std.proofs.lemmas.List.Sorted.{IsPermutation-refl}
use Rattle.lsm_sorted.specs.version.KeyRange.{Interval}
use Rattle.lsm_sorted.specs.version.Packing.{tables_in, put, put_all, AreTablesWellFormed}
use Rattle.lsm_sorted.specs.version.Packing.{AreInOrder}
use Rattle.lsm_sorted.specs.version.Packing.{AreNotEmpty}
use Rattle.lsm_sorted.specs.version.Links.{IsElement, TableWithPlace, table_with_place}
use Rattle.lsm_sorted.specs.version.Links.{run_with_places}
use Rattle.lsm_sorted.specs.version.Links.{runs_with_places}
use Rattle.lsm_sorted.specs.version.LinkedRuns.{table_of_link, ArePackedLinks}
use Rattle.lsm_sorted.specs.declared.version.optimize.Link.{Link}
use Rattle.lsm_sorted.proofs.PackLemmas.{put_all_packed, put_all-append, formed_parts, in_order_of}
use Rattle.lsm_sorted.proofs.PackLemmas.{filter-cons_no, filter-cons_yes}
use Rattle.lsm_sorted.proofs.PackSize.{formed-map}
use Rattle.lsm_sorted.proofs.SpanLemmas.{map-push}

module _ {X : Type 0} where
  -- an element of a list is at some place, and the other way round
  pub mem_contains : (xs : List X) (x : X) → IsElement x xs → Contains xs x
  mem_contains [] x h = absurd h
  mem_contains (y ∷ ys) x h =
      elim h [
        | inl e ↦ (0, omega arith, sym e)
        | inr m ↦ let k = mem_contains ys x m in (suc k.0, omega (arith, k.1), k.2)
      ]

  pub contains_mem : (xs : List X) (x : X) → Contains xs x → IsElement x xs
  contains_mem xs x (k, lt, at) = go xs k lt at
    where
      go : (ys : List X) (k : ℕ) → k < length ys → get_or ys k x ≡ x → IsElement x ys
      go [] k lt at = absurd (omega arith)
      go (y ∷ ys) zero lt at = inl (sym at)
      go (y ∷ ys) (suc k) lt at = inr (go ys k (omega arith) at)

  any_no : (p : X → Bool) (z : X) (zs : List X) → p z ≡ false → list_any p (z ∷ zs) ≡ list_any p zs
  any_no p z zs e = rw e refl

  none_first : (p : X → Bool) (xs : List X) → None ≡ slice_get (filter p xs) 0
      → list_any p xs ≡ true → ⊥
  none_first p [] n s = cc
  none_first p (z ∷ zs) n s =
      elim (cases_Bool (p z)) [
        | inl e ↦ let f : None ≡ Some z = n ∙ ap (λ l. slice_get l 0) (filter-cons_yes p z zs e) in
            cc
        | inr e ↦ none_first p zs (n ∙ ap (λ l. slice_get l 0) (filter-cons_no p z zs e))
            (sym (any_no p z zs e) ∙ s)
      ]

  -- where one passes, there is a first that passes
  pub first_passes : (p : X → Bool) (xs ys : List X) → ys ≡ filter p xs → None ≡ slice_get ys 0
      → list_any p xs ≡ true → ⊥
  first_passes p xs ys is none some = none_first p xs (none ∙ ap (λ l. slice_get l 0) is) some

  some_first : (p : X → Bool) (xs : List X) (x : X) → Some x ≡ slice_get (filter p xs) 0
      → IsElement x xs × (p x ≡ true)
  some_first p [] x h = absurd cc
  some_first p (z ∷ zs) x h =
      elim (cases_Bool (p z)) [
        | inl e ↦
            let f : Some x ≡ Some z = h ∙ ap (λ l. slice_get l 0) (filter-cons_yes p z zs e) in
            let g : x ≡ z = cc in
            (inl g, ap p g ∙ e)
        | inr e ↦ let k = some_first p zs x (h ∙ ap (λ l. slice_get l 0)
            (filter-cons_no p z zs e)) in (inr k.0, k.1)
      ]

  -- the first that passes is there, and passes
  pub first_found : (p : X → Bool) (xs ys : List X) (x : X) → ys ≡ filter p xs
      → Some x ≡ slice_get ys 0 → Contains xs x × (p x ≡ true)
  first_found p xs ys x is at = let k = some_first p xs x (at ∙ ap (λ l. slice_get l 0) is) in
      (mem_contains xs x k.0, k.1)

module _ {T : Type 0} where
  run_with_places-push : (i k : ℕ) (ts : List T) (t : T)
      → run_with_places i k (ts ++ t ∷ [])
      ≡ run_with_places i k ts ++ table_with_place t i (k + length ts) ∷ []
  run_with_places-push i k [] t = let e : k ≡ k + 0 = omega arith in
      ap (λ n. table_with_place t i n ∷ []) e
  run_with_places-push i k (x ∷ xs) t =
      let e : suc k + length xs ≡ k + suc (length xs) = omega arith in
      ap (λ l. table_with_place x i k ∷ l) (run_with_places-push i (suc k) xs t
      ∙ ap (λ n. run_with_places i (suc k) xs ++ table_with_place t i n ∷ []) e)

  run_with_places-more : (i j : ℕ) (ts : List T) (t : T) → j < length ts → t ≡ get_or ts j t
      → run_with_places i 0 (take (j + 1) ts)
      ≡ run_with_places i 0 (take j ts) ++ table_with_place t i j ∷ []
  run_with_places-more i j ts t lt at =
      let long : 0 + length (take j ts) ≡ j = zero-add (length (take j ts))
      ∙ length-take-le j ts (omega arith) in
      ap (run_with_places i 0) (take_more ts j t lt ∙ ap (λ v. take j ts ++ v ∷ []) (sym at))
      ∙ run_with_places-push i 0 (take j ts) t
      ∙ ap (λ n. run_with_places i 0 (take j ts) ++ table_with_place t i n ∷ []) long

  runs_with_places-push : (k : ℕ) (runs : List (List T)) (run : List T)
      → runs_with_places k (runs ++ run ∷ [])
      ≡ runs_with_places k runs ++ run_with_places (k + length runs) 0 run
  runs_with_places-push k [] run = let e : k ≡ k + 0 = omega arith in
      append-nil (run_with_places k 0 run) ∙ ap (λ n. run_with_places n 0 run) e
  runs_with_places-push k (r ∷ rs) run =
      let e : suc k + length rs ≡ k + suc (length rs) = omega arith in
      ap (λ l. run_with_places k 0 r ++ l) (runs_with_places-push (suc k) rs run
      ∙ ap (λ n. runs_with_places (suc k) rs ++ run_with_places n 0 run) e)
      ∙ sym (append_assoc (run_with_places k 0 r) (runs_with_places (suc k) rs)
      (run_with_places (k + suc (length rs)) 0 run))

  runs_with_places-more : (i : ℕ) (runs : List (List T)) (run : List T) → i < length runs
      → run ≡ get_or runs i run
      → runs_with_places 0 (take (i + 1) runs)
      ≡ runs_with_places 0 (take i runs) ++ run_with_places i 0 run
  runs_with_places-more i runs run lt at =
      let long : 0 + length (take i runs) ≡ i = zero-add (length (take i runs))
      ∙ length-take-le i runs (omega arith) in
      ap (runs_with_places 0) (take_more runs i run lt ∙ ap (λ v. take i runs ++ v ∷ []) (sym at))
      ∙ runs_with_places-push 0 (take i runs) run
      ∙ ap (λ n. runs_with_places 0 (take i runs) ++ run_with_places n 0 run) long

module _ {T : Type 0} (range : T → Interval) where
  -- nothing is packed yet
  pub links_none : (packed : List (List (Link T))) → packed ≡ [] → ArePackedLinks range [] packed
  links_none packed is = subst (ArePackedLinks range []) (sym is)
      (record {
        links = [];
        tables_are = refl;
        same = IsPermutation-refl [];
        put =
            λ formed. refl;
        some = tt;
      })

  -- one more link is packed
  pub links_push : (ts : List (TableWithPlace T)) (now next : List (List (Link T))) (link : Link T)
      → ArePackedLinks range ts now
      → (AreInOrder (λ l. range l.table.now) now → next ≡ put (λ l. range l.table.now) link now)
      → IsPermutation (tables_in now ++ link ∷ []) (tables_in next)
      → (AreNotEmpty now → AreNotEmpty next)
      → ArePackedLinks range (ts ++ table_of_link link ∷ []) next
  links_push ts now next link h put_one same some =
      let f : Link T → Interval = λ l. range l.table.now in
      record {
        links = h.links ++ link ∷ [];
        tables_are = map-push (λ l. table_of_link l) h.links link
            ∙ ap (λ l. l ++ table_of_link link ∷ []) h.tables_are;
        same = IsPermutation-trans (h.links ++ link ∷ []) (tables_in now ++ link ∷ [])
            (tables_in next) (IsPermutation-append_left (link ∷ []) h.links (tables_in now) h.same)
            same;
        put = λ formed.
            let k = formed_parts (λ (x : TableWithPlace T). range x.table) ts
            (table_of_link link) formed in
            let is = h.put k.0 in
            let formed_links : AreTablesWellFormed f h.links =
            formed-map (λ (x : TableWithPlace T). range x.table)
            (λ (l : Link T). table_of_link l) h.links
            (subst (AreTablesWellFormed (λ (x : TableWithPlace T). range x.table))
            (sym h.tables_are) k.0) in
            let ordered : AreInOrder f now = subst (AreInOrder f) (sym is)
            (in_order_of f (put_all f h.links []) (put_all_packed f h.links [] formed_links
            tt)) in
            put_one ordered ∙ ap (λ rs. put f link rs) is
            ∙ sym (put_all-append f h.links (link ∷ []) []);
        some = some h.some;
      }

  pub links_more : (ts : List (TableWithPlace T)) (i j : ℕ) (tables : List T)
      (now next : List (List (Link T))) (link : Link T)
      → IsPermutation (tables_in now ++ link ∷ []) (tables_in next)
      → (AreInOrder (λ l. range l.table.now) now → next ≡ put (λ l. range l.table.now) link now)
      → (AreNotEmpty now → AreNotEmpty next) → j < length tables
      → link.table.now ≡ get_or tables j link.table.now → link.run ≡ i → link.index ≡ j
      → ArePackedLinks range (ts ++ run_with_places i 0 (take j tables)) now
      → ArePackedLinks range (ts ++ run_with_places i 0 (take (j + 1) tables)) next
  links_more ts i j tables now next link same put_one some lt at run_is index_is h =
      subst (λ (xs : List (TableWithPlace T)). ArePackedLinks range xs next)
      (append_assoc ts (run_with_places i 0 (take j tables)) (table_of_link link ∷ [])
      ∙ ap (λ n. ts ++ (run_with_places i 0 (take j tables)
      ++ table_with_place link.table.now n link.index ∷ [])) run_is
      ∙ ap (λ n. ts ++ (run_with_places i 0 (take j tables) ++ table_with_place link.table.now i n
      ∷ [])) index_is
      ∙ ap (λ l. ts ++ l) (sym (run_with_places-more i j tables link.table.now lt at)))
      (links_push (ts ++ run_with_places i 0 (take j tables)) now next link h put_one same some)

  pub links_at_start : (ts : List (TableWithPlace T)) (i : ℕ) (tables : List T)
      (packed : List (List (Link T))) → ArePackedLinks range ts packed
      → ArePackedLinks range (ts ++ run_with_places i 0 (take 0 tables)) packed
  links_at_start ts i tables packed h = subst (λ (xs : List (TableWithPlace T)). ArePackedLinks
      range xs packed) (sym (append-nil ts)) h

  pub links_at_end : (ts : List (TableWithPlace T)) (i j : ℕ) (tables : List T)
      (packed : List (List (Link T))) → length tables ≤ j
      → ArePackedLinks range (ts ++ run_with_places i 0 (take j tables)) packed
      → ArePackedLinks range (ts ++ run_with_places i 0 tables) packed
  links_at_end ts i j tables packed le h = subst
      (λ (l : List T). ArePackedLinks range (ts ++ run_with_places i 0 l) packed)
      (take_all j tables le) h

  pub links_run : (i : ℕ) (runs : List (List T)) (run view : List T) (next : List (List (Link T)))
      → i < length runs → run ≡ get_or runs i run → view ≡ run
      → ArePackedLinks range (runs_with_places 0 (take i runs) ++ run_with_places i 0 view) next
      → ArePackedLinks range (runs_with_places 0 (take (i + 1) runs)) next
  links_run i runs run view next lt at same h =
      subst (λ (xs : List (TableWithPlace T)). ArePackedLinks range xs next)
      (ap (λ l. runs_with_places 0 (take i runs) ++ run_with_places i 0 l) same
      ∙ sym (runs_with_places-more i runs run lt at)) h

  pub links_of_all : (i : ℕ) (runs : List (List T)) (packed : List (List (Link T)))
      → length runs ≤ i → ArePackedLinks range (runs_with_places 0 (take i runs)) packed
      → ArePackedLinks range (runs_with_places 0 runs) packed
  links_of_all i runs packed le h = subst (λ (rs : List (List T)). ArePackedLinks range
      (runs_with_places 0 rs) packed) (take_all i runs le) h

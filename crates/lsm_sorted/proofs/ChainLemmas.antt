-- The chain that the walk gives, and its length.
use Rattle.std.proofs.Common.{◌≡◌, refl, sym, ◌∙◌, ap, subst, ℕ, List, [], ◌∷◌, length, inl, inr}
use Rattle.std.proofs.Common.{Some}
use Rattle.std.specs.Prelude.{map, reverse, IsPermutation}
use Rattle.std.proofs.lemmas.List.Sorted.{Contains-permutation, IsPermutation-sym}
use Rattle.std.proofs.lemmas.List.Sorted.{length_permutation}
use Rattle.std.proofs.lemmas.List.{length-reverse, nil_from_length, length-map}
use Rattle.lsm_sorted.specs.version.KeyRange.{Interval}
use Rattle.lsm_sorted.specs.version.Packing.{tables_in, table_at, put_all, AreTablesWellFormed}
use Rattle.lsm_sorted.specs.version.Packing.{AreDisjointRuns, AreNotEmpty, IsLeastSize}
use Rattle.lsm_sorted.specs.version.Links.{IsElement, TableWithPlace, runs_with_places, IsStack}
use Rattle.lsm_sorted.specs.version.LinkedRuns.{table_of_link, ArePackedLinks, AreAtPlaces}
use Rattle.lsm_sorted.specs.declared.version.optimize.Link.{Link}
use Rattle.lsm_sorted.proofs.PackLemmas.{put_all_packed, in_order_of, all_by}
use Rattle.lsm_sorted.proofs.PackNumbers.{Rises, stacked}
use Rattle.lsm_sorted.proofs.PackSize.{is_at_place, tables_with_places, rises_all, formed-map}
use Rattle.lsm_sorted.proofs.PackSize.{put_all-map, least_size}
use Rattle.lsm_sorted.proofs.LinkLemmas.{mem_contains, contains_mem}

mem-map : {Y Z : Type 0} (h : Y → Z) (ys : List Y) (y : Y) → IsElement y ys
    → IsElement (h y) (map h ys)
mem-map h [] y m = absurd m
mem-map h (x ∷ xs) y m = elim m [ inl e ↦ inl (ap h e) | inr n ↦ inr (mem-map h xs y n) ]

module _ {T : Type 0} (range : T → Interval) (runs : List (List T)) (packed : List (List (Link T)))
    (h : ArePackedLinks range (runs_with_places 0 runs) packed) where
  pub places_of : AreAtPlaces runs (tables_in packed)
  places_of =
      all_by (λ (l : Link T). table_at runs l.run l.index ≡ Some l.table.now) (tables_in packed)
      (λ l m.
      let there = contains_mem h.links l (Contains-permutation (tables_in packed) h.links l
      (IsPermutation-sym h.links (tables_in packed) h.same)
      (mem_contains (tables_in packed) l m)) in
      let among : IsElement (table_of_link l) (runs_with_places 0 runs) =
      subst (λ (ts : List (TableWithPlace T)). IsElement (table_of_link l) ts) h.tables_are
      (mem-map (λ (k : Link T). table_of_link k) h.links l there) in
      is_at_place runs (table_of_link l) among)

  map-map : (g : TableWithPlace T → T) (ls : List (Link T))
      → map (λ l. g (table_of_link l)) ls ≡ map g (map (λ l. table_of_link l) ls)
  map-map g [] = refl
  map-map g (l ∷ ls) = ap (λ k. g (table_of_link l) ∷ k) (map-map g ls)

  tables_are : map (λ l. l.table.now) h.links ≡ tables_in runs
  tables_are = map-map (λ x. x.table) h.links ∙ ap
      (λ xs. map (λ (x : TableWithPlace T). x.table) xs) h.tables_are ∙ tables_with_places 0 runs

  pub no_chain : packed ≡ [] → tables_in runs ≡ []
  no_chain e =
      let same : IsPermutation h.links [] = subst
      (λ (ps : List (List (Link T))). IsPermutation h.links (tables_in ps)) e h.same in
      let long = length_permutation h.links [] same in
      let none : h.links ≡ [] = nil_from_length h.links (sym long) in
      sym tables_are ∙ ap (λ ls. map (λ (l : Link T). l.table.now) ls) none

  module _ (d : AreDisjointRuns range runs) where
    formed_tables : AreTablesWellFormed (λ x. range x.table) (runs_with_places 0 runs)
    formed_tables = formed-map range (λ (x : TableWithPlace T). x.table) (runs_with_places 0 runs)
        (subst (AreTablesWellFormed range) (sym (tables_with_places 0 runs)) d.formed)

    formed_links : AreTablesWellFormed (λ l. range l.table.now) h.links
    formed_links = formed-map (λ (x : TableWithPlace T). range x.table)
        (λ (l : Link T). table_of_link l) h.links (subst
        (AreTablesWellFormed (λ (x : TableWithPlace T). range x.table))
        (sym h.tables_are) formed_tables)

    rises-map : (ls : List (Link T))
        → Rises (λ x. range x.table) (λ x. x.run) (map (λ l. table_of_link l) ls)
        → Rises (λ l. range l.table.now) (λ l. l.run) ls
    rises-map [] r = tt
    rises-map (l ∷ ls) r = (
      (λ y m o. r.0 (table_of_link y)
          (mem-map (λ (k : Link T). table_of_link k) ls y m) o),
      rises-map ls r.1,
    )

    pub stack_of : IsStack (λ l. range l.table.now) (λ l. l.run) packed
    stack_of =
        let f : Link T → Interval = λ l. range l.table.now in
        let at : Link T → ℕ = λ l. l.run in
        let is = h.put formed_tables in
        let rises : Rises f at h.links = rises-map h.links
        (subst (Rises (λ (x : TableWithPlace T). range x.table) (λ x. x.run)) (sym h.tables_are)
        (rises_all range 0 runs d.apart)) in
        let s = stacked f at h.links rises in
        subst (IsStack f at) (sym is) (record {
          order = in_order_of f (put_all f h.links [])
              (put_all_packed f h.links [] formed_links tt);
          some = subst (λ (ps : List (List (Link T))). AreNotEmpty ps) is h.some;
          keeps_order = s.keeps_order;
          carries = s.carries;
        })

    pub chain_least : (chain found : List (ℕ × ℕ)) → chain ≡ reverse found
        → (IsStack (λ l. range l.table.now) (λ l. l.run) packed → length found ≡ length packed)
        → IsLeastSize range runs (length chain)
    chain_least chain found is whole =
        let f : Link T → Interval = λ l. range l.table.now in
        let size : length packed ≡ length (put_all range (tables_in runs) []) =
        ap length (h.put formed_tables)
        ∙ sym (length-map (put_all f h.links []) (map (λ (l : Link T). l.table.now)))
        ∙ ap length (put_all-map (λ (l : Link T). l.table.now) range h.links []
        ∙ ap (λ ts. put_all range ts []) tables_are) in
        subst (IsLeastSize range runs) (sym (ap length is ∙ length-reverse found ∙ whole stack_of
        ∙ size)) (least_size range runs d)

pub chain_some : (chain found : List (ℕ × ℕ)) → chain ≡ reverse found → chain ≡ [] → found ≡ []
chain_some chain found is e = nil_from_length found
    (sym (length-reverse found) ∙ ap length (sym is) ∙ ap length e)

-- What a range of an opened table deals and loads.
use Rattle.std.proofs.Common.{◌≡◌, ℕ, zero, suc, ◌+◌, ◌≤◌, Bool, true, false, List, [], ◌∷◌, ◌++◌}
use Rattle.std.proofs.Common.{length, reverse, refl, sym, ap, subst, ◌∙◌, append-nil, arith}
use Rattle.std.specs.Prelude.{IfOk, Option, Some, None, Result, Ok, Err}
use Rattle.std.specs.declared.ops.Bound.{Bound}
use Rattle.std.specs.declared.ops.Bound.TheVariants.{Unbounded}
use Rattle.sst_entries.specs.declared.error.Error.{Error}
use Rattle.sst_entries.specs.declared.error.Error.TheVariants.{OutOfMemory}
use Rattle.sst_entries.specs.declared.stream.Direction.{Direction}
use Rattle.sst_entries.specs.declared.stream.Direction.TheVariants.{Front, Back}
use Rattle.sst_entries.specs.Entry.{Entry}
use Rattle.sst_entries.specs.Error.{is_memory}
use Rattle.sst_entries.specs.Point.{within}
use Rattle.sst_entries.specs.Stream.{YieldsExactly, NoneStops, Runs, answer_stops, back_of, but_first, yield_each}
use Rattle.sst_entries.specs.Stream.{first, front_of, ok_results}
use Rattle.sst_entries.proofs.Booleans.{apart, is_false}
use Rattle.sst_entries.proofs.StreamLemmas.{map_reverse}
use Rattle.sst_entries.proofs.Refusals.{memory_is}
use Rattle.sst_blocks.specs.declared.opened.Opened.{Opened}
use Rattle.sst_blocks.specs.Handle.{Handle}
use Rattle.lsm_iters.specs.block_index.Yielded.{YieldsEnding, ended_at_error}
use Rattle.lsm_iters.specs.block_index.Left.{with_index_loads}
use Rattle.lsm_iters.specs.Bounds.{lower_edge, upper_edge}
use Rattle.lsm_iters.specs.Lending.{RangeLends}
use Rattle.lsm_iters.specs.Lift.{lift, lift_results}
use Rattle.lsm_iters.specs.Range.{Next, Range, RangeGives, back_next, data_loaded, front_next}
use Rattle.lsm_iters.specs.Range.{index_to_come, left_in, opened_in, range_left, to_come}
use Rattle.lsm_iters.specs.Rows.{Bounded, rows}
use Rattle.lsm_iters.proofs.Cuts.{all_within}
use Rattle.lsm_iters.proofs.RangeEnds.{if_false}
use Rattle.lsm_iters.proofs.LentLaws.{lending_yields}
use Rattle.lsm_iters.proofs.RangeLaws.{range_yields}
use Rattle.lsm_readers.specs.BlockIndexes.{table_index}
use Rattle.lsm_readers.specs.Ranges.{YieldsAll, YieldsWithin, IsRangeOf, LoadsAtMost, blocks_within}
use Rattle.lsm_readers.specs.Ranges.{bounded, index_within, range_results}
use Rattle.lsm_readers.specs.Stored.{StoresList}
use Rattle.lsm_readers.specs.point.Table.{IsOpen, OpenTable}
use Rattle.lsm_readers.proofs.StoredParts.{stored_blocks, stored_rows}

abbrev R : Type 0
R = Result Entry Error

-- one call at the front, and at the back
abbrev pub gives : {A : Type 0} → Range A → Option R → Range A → Type 0
gives = RangeGives front_of front_next

abbrev pub back_gives : {A : Type 0} → Range A → Option R → Range A → Type 0
back_gives = RangeGives back_of back_next

-- ---- where only want of memory stops a reader, values are dealt to the end

module _ (stops : Error → Bool) (memory : stops OutOfMemory ≡ true) where
  no_memory : (r : Option R) → answer_stops stops r ≡ false → answer_stops is_memory r ≡ false
  no_memory None fine = refl
  no_memory (Some (Ok e)) fine = refl
  no_memory (Some (Err e)) fine = is_false (is_memory e)
      (λ m. apart (stops e) (subst (λ (x : Error). stops x ≡ true) (sym (memory_is e m)) memory)
      fine)

  none_memory : (rs : List (Option R)) → NoneStops (answer_stops stops) rs
      → NoneStops (answer_stops is_memory) rs
  none_memory [] fine = tt
  none_memory (r ∷ rs) fine = (no_memory r fine.0, none_memory rs fine.1)

-- the answers at the back, by the list in reverse
abbrev BackOk : List R → List Direction → Type 0
BackOk zs ends = ended_at_error (first zs ∷ yield_each (reverse (but_first zs)) ends) ≡ first zs
    ∷ yield_each (reverse (but_first zs)) ends

by_back : (ys : List Entry) (ends : List Direction)
    → ((us : List Entry) → ended_at_error (yield_each (ok_results us) ends) ≡ yield_each (ok_results us) ends)
    → BackOk (ok_results ys) ends
by_back [] ends more = ap (λ (rs : List (Option R)). None ∷ rs) (more [])
by_back (y ∷ ys) ends more =
    let zs = reverse (ok_results ys) in
    let rest : ended_at_error (yield_each zs ends) ≡ yield_each zs ends =
    subst (λ (xs : List R). ended_at_error (yield_each xs ends) ≡ yield_each xs ends) (sym (map_reverse ys))
    (more (reverse ys)) in
    ap (λ (rs : List (Option R)). Some (Ok y) ∷ rs) rest

yield_ok : (xs : List Entry) (ends : List Direction)
    → ended_at_error (yield_each (ok_results xs) ends) ≡ yield_each (ok_results xs) ends
yield_ok xs [] = refl
yield_ok [] (Front ∷ ends) = ap (λ (rs : List (Option R)). None ∷ rs) (yield_ok [] ends)
yield_ok (x ∷ xs) (Front ∷ ends) = ap (λ (rs : List (Option R)). Some (Ok x) ∷ rs) (yield_ok xs ends)
yield_ok xs (Back ∷ ends) = subst (λ (zs : List R). BackOk zs ends) (sym (map_reverse xs))
    (by_back (reverse xs) ends (λ us. yield_ok us ends))

pub yields_values : {S : Type 0} (front back : S → Option R → S → Type 0) (may may_back : S → Type 0)
    (s : S) (xs : List Entry) → YieldsEnding front back may may_back s (ok_results xs)
    → (stops : Error → Bool) → stops OutOfMemory ≡ true
    → YieldsExactly (answer_stops stops) front back s (ok_results xs)
yields_values front back may may_back s xs d stops memory = record {
  answers = λ ends rs t runs fine. d.answers ends rs t runs (none_memory stops memory rs fine)
      ∙ yield_ok xs ends;
}

-- ---- how many blocks are loaded

data_more : (n : ℕ) (o : Opened) → (data_loaded n o).data_loads ≤ o.data_loads + n
data_more zero o = omega arith
data_more (suc n) o = omega (arith, data_more n o)

index_more : (n : ℕ) (o : Opened) → (with_index_loads n o).index_loads ≤ o.index_loads + n
index_more zero o = omega arith
index_more (suc n) o = omega (arith, index_more n o)

same_filter : (n : ℕ) (o : Opened) → (with_index_loads n o).filter_loads ≡ o.filter_loads
same_filter zero o = refl
same_filter (suc n) o = same_filter n o

same_meta : (n : ℕ) (o : Opened) → (with_index_loads n o).meta_loads ≡ o.meta_loads
same_meta zero o = refl
same_meta (suc n) o = same_meta n o

-- what was loaded and what is to come are no more than so many
record IsWithin {A : Type 0} (blocks index : ℕ) (s : Range A) : Type 0 where
  data_fits : (opened_in s).data_loads + length (to_come s) ≤ blocks
  index_fits : (opened_in s).index_loads + index_to_come s ≤ index
  no_filter : (opened_in s).filter_loads ≡ 0
  no_meta : (opened_in s).meta_loads ≡ 0

module _ {A : Type 0} (blocks index : ℕ) where
  stays : (end : List R → Option R × List R) (next : Range A → Next) (s : Range A) (r : Option R)
      (t : Range A) → RangeGives end next s r t → IsWithin blocks index s → IsWithin blocks index t
  stays end next s r t step held =
      let o = (left_in s.handles).opened in
      let n = step.loads.index in
      record {
        data_fits = omega (
          arith,
          ap (λ (x : Opened). x.data_loads) step.loads.counts,
          data_more
              step.loads.blocks s.opened,
          step.loads.within,
          held.data_fits,
        );
        index_fits = omega (
          arith,
          ap (λ (x : Opened). x.index_loads) step.loads.index_counts,
          index_more n o,
          step.loads.index_within,
          held.index_fits,
        );
        no_filter = ap (λ (x : Opened). x.filter_loads) step.loads.index_counts ∙ same_filter n o
            ∙ held.no_filter;
        no_meta = ap (λ (x : Opened). x.meta_loads) step.loads.index_counts ∙ same_meta n o
            ∙ held.no_meta;
      }

  along : (ends : List Direction) (rs : List (Option R)) (s t : Range A)
      → Runs gives back_gives s ends rs t → IsWithin blocks index s → IsWithin blocks index t
  along [] [] s t runs held = subst (λ (x : Range A). IsWithin blocks index x) runs held
  along [] (r ∷ rs) s t runs held = absurd runs
  along (e ∷ ends) [] s t runs held = absurd runs
  along (Front ∷ ends) (r ∷ rs) s t runs held =
      along ends rs runs.0 t runs.2 (stays front_of front_next s r runs.0 runs.1 held)
  along (Back ∷ ends) (r ∷ rs) s t runs held = along ends rs runs.0 t runs.2
      (stays back_of back_next s r runs.0 runs.1 held)

-- ---- a range that lends gives what it lends

module _ {A : Type 0} where
  pub gives_along : (ends : List Direction) (rs : List (Option R)) (s t : Range A)
      → Runs RangeLends back_gives s ends rs t → Runs gives back_gives s ends rs t
  gives_along [] [] s t runs = runs
  gives_along [] (r ∷ rs) s t runs = absurd runs
  gives_along (e ∷ ends) [] s t runs = absurd runs
  gives_along (Front ∷ ends) (r ∷ rs) s t runs =
      (runs.0, runs.1.gives, gives_along ends rs runs.0 t runs.2)
  gives_along (Back ∷ ends) (r ∷ rs) s t runs =
      (runs.0, runs.1, gives_along ends rs runs.0 t runs.2)

-- ---- a range of an opened table

module _ {A : Type 0} (t : OpenTable) (low high : Bound (List ℕ)) (s : Range A)
    (is : IsRangeOf t low high s) where
  abbrev returned : List (Result Handle Error)
  returned = (table_index t).returned (lower_edge low) (upper_edge high)

  pub come : to_come s ≡ returned
  come =
      if_false s.handles.sought (left_in s.handles).results
      ((left_in s.handles).index.returned (lower_edge s.of.low) (upper_edge s.of.high)) is.unsought
      ∙ ap (λ (b : Bounded). (left_in s.handles).index.returned (lower_edge b.low) (upper_edge b.high))
      is.of
      ∙ ap (λ i. i.returned (lower_edge low) (upper_edge high)) is.index

  pub index_come : index_to_come s ≡ index_within t low high
  index_come =
      if_false s.handles.sought (left_in s.handles).loads
      ((left_in s.handles).index.loads (lower_edge s.of.low) (upper_edge s.of.high)) is.unsought
      ∙ ap (λ (b : Bounded). (left_in s.handles).index.loads (lower_edge b.low) (upper_edge b.high))
      is.of
      ∙ ap (λ i. i.loads (lower_edge low) (upper_edge high)) is.index

  pub left_is : range_left s ≡ range_results t low high
  left_is =
      ap (λ (es : List Entry). lift_results s.of.global_seqno es
      ++ (rows s.of (to_come s) ++ lift_results s.of.global_seqno s.back)) is.front
      ∙ ap (λ (es : List Entry). rows s.of (to_come s) ++ lift_results s.of.global_seqno es) is.back
      ∙ append-nil (rows s.of (to_come s))
      ∙ ap (λ (b : Bounded). rows b (to_come s)) is.of
      ∙ ap (rows (bounded t low high)) come

  -- it deals what the table tells
  pub table_yields : YieldsEnding gives back_gives (λ _. Unit {0}) (λ _. Unit {0}) s
      (range_results t low high)
  table_yields = subst (λ (xs : List R). YieldsEnding gives back_gives (λ _. Unit {0})
      (λ _. Unit {0}) s xs) left_is (range_yields s)

  -- and lends it from the front
  pub table_lends : YieldsEnding RangeLends back_gives (λ _. Unit {0}) (λ _. Unit {0}) s
      (range_results t low high)
  table_lends = subst (λ (xs : List R). YieldsEnding RangeLends back_gives (λ _. Unit {0})
      (λ _. Unit {0}) s xs) left_is (lending_yields s)

  loads_few : (blocks : ℕ) → length returned ≡ blocks
      → LoadsAtMost gives back_gives blocks (index_within t low high) s
  loads_few blocks many ends rs u runs =
      let index = index_within t low high in
      let held : IsWithin blocks index s = record {
        data_fits = omega (
          arith,
          ap (λ (o : Opened). o.data_loads) is.opened,
          ap length come,
          many,
        );
        index_fits = omega (arith, ap (λ (o : Opened). o.index_loads) is.opened, index_come);
        no_filter = ap (λ (o : Opened). o.filter_loads) is.opened;
        no_meta = ap (λ (o : Opened). o.meta_loads) is.opened;
      } in
      let last = along blocks index ends rs s u runs held in
      record {
        data_few = omega (arith, last.data_fits);
        index_few = omega (arith, last.index_fits);
        no_filter = last.no_filter;
        no_meta = last.no_meta;
      }

  -- ---- of bytes that store a list

  module _ (held : IsOpen t) (es : List Entry) (stored : StoresList t.bytes es) where
    pub list_yields : YieldsWithin gives back_gives low high es t.global_seqno s
    list_yields stops memory =
        let of_list = stored_rows t.bytes es stored t.global_seqno held.recovered.pin_filter
        held.recovered.pin_index t.parts held.recovered.returned low high in
        let yields = subst (λ (xs : List R). YieldsEnding gives back_gives (λ _. Unit {0})
        (λ _. Unit {0}) s xs) of_list table_yields in
        yields_values gives back_gives (λ _. Unit {0}) (λ _. Unit {0}) s
        (within low high (lift es t.global_seqno)) yields stops memory

    pub list_lends : YieldsWithin RangeLends back_gives low high es t.global_seqno s
    list_lends stops memory = record {
      answers = λ ends rs u runs fine.
          (list_yields stops memory).answers ends rs u (gives_along ends rs s u runs) fine;
    }

    pub list_loads : LoadsAtMost gives back_gives (blocks_within stored low high)
        (index_within t low high) s
    list_loads =
        loads_few (blocks_within stored low high) (stored_blocks t.bytes es stored t.global_seqno
        held.recovered.pin_filter held.recovered.pin_index t.parts held.recovered.returned
        (lower_edge low) (upper_edge high))

    pub list_lends_few : LoadsAtMost RangeLends back_gives (blocks_within stored low high)
        (index_within t low high) s
    list_lends_few ends rs u runs = list_loads ends rs u (gives_along ends rs s u runs)

pub yields_all_of : {S : Type 0} (front back : S → Option R → S → Type 0) (r : Result S Error)
    (es : List Entry) (g : ℕ) → IfOk r (YieldsWithin front back Unbounded Unbounded es g)
    → IfOk r (YieldsAll front back es g)
yields_all_of front back (Ok s) es g yields = λ stops memory. subst
    (λ (xs : List Entry). YieldsExactly (answer_stops stops) front back s (ok_results xs))
    (all_within (lift es g)) (yields stops memory)
yields_all_of front back (Err e) es g yields = tt

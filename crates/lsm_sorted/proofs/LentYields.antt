-- A fresh lending merger deals what its sources have together, each error in its place.
use Rattle.std.proofs.Common.{◌≡◌, refl, sym, ◌∙◌, ap, subst, ℕ, zero, suc, ◌<◌, ◌≤◌, Bool, true}
use Rattle.std.proofs.Common.{false, cond, List, [], ◌∷◌, ◌++◌, length, map, arith, slice_index_or}
use Rattle.std.specs.Prelude.{Option, Some, None, Ok, Err, All}
use Rattle.std.specs.List.{AllZip, AllByRecursion}
use Rattle.std.specs.Vec.{vec_capacity}
use Rattle.std.specs.Ordering.{is_gt}
use Rattle.std.proofs.lemmas.List.Elements.{All-nil}
use Rattle.sst_entries.specs.Entry.{Entry}
use Rattle.sst_entries.specs.Stream.{CanYield, YieldsExactly, EndAtError, EndsAtError, Runs, answer_stops}
use Rattle.sst_entries.specs.Stream.{nowhere, ok_results}
use Rattle.sst_entries.specs.declared.error.Error.{Error}
use Rattle.sst_entries.specs.declared.stream.Direction.{Direction}
use Rattle.sst_entries.specs.declared.stream.Direction.TheVariants.{Front, Back}
use Rattle.sst_entries.proofs.StreamLemmas.{can_by, yields_by}
use Rattle.lsm_sorted.specs.declared.lending_merger.LendingMerger.{LendingMerger}
use Rattle.lsm_sorted.specs.merge.Ends.{R}
use Rattle.lsm_sorted.specs.merge.InPlace.{Placed, places_of, put_in_place, sort_places, all_placed}
use Rattle.lsm_sorted.specs.merge.InPlace.{up_to_error, merge_of}
use Rattle.lsm_sorted.specs.lending.Lent.{AdvancesLent, LendsNoMore, LeavesLent, LeavesIf, MayLend}
use Rattle.lsm_sorted.specs.lending.Lent.{IsHead, IsQueue, Rests, lent_of, queued, source_of}
use Rattle.lsm_sorted.specs.merge.MergeLaws.{YieldSorted, YieldsInPlace, YieldsMerged}
use Rattle.lsm_sorted.specs.merge.Union.{item_cmp, entries_among, errors_among, all_entries}
use Rattle.lsm_sorted.specs.merge.Union.{all_errors}
use Rattle.lsm_sorted.specs.merge.Union.{insert_sorted, sort_entries, union_of}

-- ---- without errors

abbrev in_place : Entry → Placed
in_place x = record { at = Some x; is = Ok x }

placed_entries : (before : Option Entry) (rs : List R) → errors_among rs ≡ []
    → places_of before rs ≡ map in_place (entries_among rs)
placed_entries before [] none = refl
placed_entries before (Ok x ∷ rs) none = ap (λ (ps : List Placed). in_place x ∷ ps)
    (placed_entries (Some x) rs none)
placed_entries before (Err e ∷ rs) none = cc

map_joined : (xs ys : List Entry) → map in_place (xs ++ ys) ≡ map in_place xs ++ map in_place ys
map_joined [] ys = refl
map_joined (x ∷ xs) ys = ap (λ (ps : List Placed). in_place x ∷ ps) (map_joined xs ys)

none_of_both : (es fs : List Error) → es ++ fs ≡ [] → (es ≡ []) × (fs ≡ [])
none_of_both [] fs e = (refl, e)
none_of_both (x ∷ es) fs e = cc

all_in_place : (lists : List (List R)) → all_errors lists ≡ []
    → all_placed lists ≡ map in_place (all_entries lists)
all_in_place [] none = refl
all_in_place (rs ∷ lists) none =
    let parts = none_of_both (errors_among rs) (all_errors lists) none in
    ap (λ (ps : List Placed). ps ++ all_placed lists) (placed_entries None rs parts.0)
    ∙ ap (λ (ps : List Placed). map in_place (entries_among rs) ++ ps) (all_in_place lists parts.1)
    ∙ sym (map_joined (entries_among rs) (all_entries lists))

put_entry : (x : Entry) (ys : List Entry)
    → put_in_place (in_place x) (map in_place ys) ≡ map in_place (insert_sorted x ys)
put_entry x [] = refl
put_entry x (y ∷ ys) = elim (is_gt (item_cmp x y)) as
    (λ b. cond b (in_place y ∷ put_in_place (in_place x) (map in_place ys))
    (in_place x ∷ in_place y ∷ map in_place ys)
    ≡ map in_place (cond b (y ∷ insert_sorted x ys) (x ∷ y ∷ ys))) [
      | true ↦ ap (λ (ps : List Placed). in_place y ∷ ps) (put_entry x ys)
      | false ↦ refl
    ]

sort_entries_in_place : (xs : List Entry)
    → sort_places (map in_place xs) ≡ map in_place (sort_entries xs)
sort_entries_in_place [] = refl
sort_entries_in_place (x ∷ xs) = ap (put_in_place (in_place x)) (sort_entries_in_place xs)
    ∙ put_entry x (sort_entries xs)

no_error_result : (xs : List Entry)
    → up_to_error (map (λ (p : Placed). p.is) (map in_place xs)) ≡ ok_results xs
no_error_result [] = refl
no_error_result (x ∷ xs) = ap (λ (rs : List R). Ok x ∷ rs) (no_error_result xs)

-- without errors all entries are dealt
pub merge_entries : (lists : List (List R)) → all_errors lists ≡ []
    → merge_of lists ≡ ok_results (union_of lists)
merge_entries lists none =
    ap (λ (ps : List Placed). up_to_error (map (λ (p : Placed). p.is) (sort_places ps)))
    (all_in_place lists none)
    ∙ ap (λ (ps : List Placed). up_to_error (map (λ (p : Placed). p.is) ps))
    (sort_entries_in_place (all_entries lists))
    ∙ no_error_result (union_of lists)

-- ---- whole runs

zip_rests : {S : Type 0} (advances : S → Option R → S → Type 0) (stops : Error → Bool)
    (ss : List S) (lists : List (List R))
    → AllZip (YieldsExactly (answer_stops stops) advances nowhere) ss lists
    → (length lists ≡ length ss) × ((i : ℕ) (s : S) → i < length ss
    → YieldsExactly (answer_stops stops) advances nowhere (slice_index_or ss i s)
    (slice_index_or lists i []))
zip_rests advances stops [] [] h = (refl, λ i s lt. absurd (omega (arith, lt)))
zip_rests advances stops [] (rs ∷ lists) h = absurd h
zip_rests advances stops (s ∷ ss) [] h = absurd h
zip_rests {S = S} advances stops (s ∷ ss) (rs ∷ lists) h =
    let more = zip_rests advances stops ss lists h.1 in
    (ap suc more.0, λ i d lt. each more.1 i d lt)
  where
    each : ((i : ℕ) (s : S) → i < length ss
        → YieldsExactly (answer_stops stops) advances nowhere (slice_index_or ss i s)
        (slice_index_or lists i [])) → (i : ℕ) (d : S) → i < length (s ∷ ss)
        → YieldsExactly (answer_stops stops) advances nowhere (slice_index_or (s ∷ ss) i d)
        (slice_index_or (rs ∷ lists) i [])
    each more zero d lt = h.0
    each more (suc i) d lt = more i d (omega (arith, lt))

one_over : (r : Option R) (rs : List (Option R))
    → ((e : Error) → r ≡ Some (Err e) → AllByRecursion (λ q. q ≡ None) rs) → EndAtError rs
    → EndAtError (r ∷ rs)
one_over None rs over more = more
one_over (Some (Ok x)) rs over more = more
one_over (Some (Err e)) rs over more = over e refl

module _ {S A : Type 0} (advances : S → Option R → S → Type 0) (can : S → Type 0)
    (lent : S → Option Entry) where
  abbrev Adv : LendingMerger S A → Option R → LendingMerger S A → Type 0
  Adv = AdvancesLent advances can lent

  module _ (its : List S) (m : LendingMerger S A) (sources : m.sources.items ≡ its)
      (empty : m.queue.items ≡ []) (fresh : m.is_started ≡ false) where
    starts : (stops : Error → Bool) (lists : List (List R))
        → YieldSorted advances nowhere stops its lists
        → LeavesLent stops advances lent m (merge_of lists)
    starts stops lists sorted =
        let rests = zip_rests advances stops its lists sorted.yield_each in
        record {
          parts = subst (λ (b : Bool). LeavesIf stops advances lent b m (merge_of lists))
              (sym fresh) (
                lists,
                subst (λ (ss : List S). Rests stops advances lent (λ i. true) ss [] lists)
                    (sym sources)
                    (record { count = rests.0; each = rests.1; sorted = sorted.ascend }),
                refl,
              );
        }

    pub lent_in_place : YieldsInPlace advances nowhere its Adv nowhere m
    lent_in_place = record {
      yields = λ stops lists sorted. yields_by (answer_stops stops) Adv nowhere
          (LeavesLent stops advances lent) (λ s xs r t has step fine. step.gives stops xs has fine)
          (λ s xs r t has step fine. absurd step) m (merge_of lists) (starts stops lists sorted);
    }

    pub lent_merged : YieldsMerged advances nowhere its Adv nowhere m
    lent_merged = record {
      yields = λ stops lists sorted none. subst (YieldsExactly (answer_stops stops) Adv nowhere m)
          (merge_entries lists none) (lent_in_place.yields stops lists sorted);
    }

    pub lent_may : length its ≤ vec_capacity m.queue → All (CanYield advances nowhere can can) its
        → MayLend advances can lent m
    lent_may room all = record {
      ready = record {
        sources = subst (All (CanYield advances nowhere can can)) (sym sources) all;
        known = subst (All (λ q. q < length m.sources.items)) (sym none)
            (All-nil (λ q. q < length m.sources.items));
        room = subst (λ (ss : List S). length ss ≤ vec_capacity m.queue) (sym sources) room;
        queue = subst (λ (qs : List ℕ). IsQueue (lent_of lent m.sources.items) qs) (sym none) tt;
        heads = subst (All (IsHead (lent_of lent m.sources.items))) (sym empty)
            (All-nil (IsHead (lent_of lent m.sources.items)));
      };
      fresh = λ e. empty;
    }
      where
        none : queued m ≡ []
        none = ap (map source_of) empty

  pub lent_can : (m : LendingMerger S A) → MayLend advances can lent m
      → CanYield Adv nowhere (MayLend advances can lent) (MayLend advances can lent) m
  lent_can m may = can_by Adv nowhere (MayLend advances can lent) (MayLend advances can lent)
      (MayLend advances can lent) (λ s m. (m, m)) (λ s r t m step. step.may)
      (λ s r t m step. absurd step) m may

  -- ---- nothing follows an error

  over_more : (ends : List Direction) (rs : List (Option R)) (s t : LendingMerger S A)
      → LendsNoMore s → Runs Adv nowhere s ends rs t → AllByRecursion (λ r. r ≡ None) rs
  over_more [] [] s t over runs = tt
  over_more [] (r ∷ rs) s t over runs = absurd runs
  over_more (e ∷ ends) [] s t over runs = absurd runs
  over_more (Front ∷ ends) (r ∷ rs) s t over runs = let one = runs.1.over over in
      (one.0, over_more ends rs runs.0 t one.1 runs.2)
  over_more (Back ∷ ends) (r ∷ rs) s t over runs = absurd runs.1

  nothing_over : (ends : List Direction) (rs : List (Option R)) (s t : LendingMerger S A)
      → Runs Adv nowhere s ends rs t → EndAtError rs
  nothing_over [] [] s t runs = tt
  nothing_over [] (r ∷ rs) s t runs = absurd runs
  nothing_over (e ∷ ends) [] s t runs = absurd runs
  nothing_over (Front ∷ ends) (r ∷ rs) s t runs =
      one_over r rs (λ e is. over_more ends rs runs.0 t (runs.1.ends e is) runs.2)
      (nothing_over ends rs runs.0 t runs.2)
  nothing_over (Back ∷ ends) (r ∷ rs) s t runs = absurd runs.1

  pub lent_ends : (m : LendingMerger S A) → EndsAtError Adv nowhere m
  lent_ends m = record { answers = λ ends rs t runs. nothing_over ends rs m t runs }

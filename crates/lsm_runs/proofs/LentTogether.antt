-- Readers of several runs that lend, below a bound of numbers, and what is newest of them.
use Rattle.std.proofs.Common.{◌≡◌, ℕ, List, [], ◌∷◌, refl, sym, ap, subst, ◌∙◌}
use Rattle.std.specs.Prelude.{Option, map}
use Rattle.std.specs.List.{AllZip}
use Rattle.sst_entries.specs.declared.stream.Direction.{Direction}
use Rattle.sst_entries.specs.declared.stream.Direction.TheVariants.{Front, Back}
use Rattle.sst_entries.specs.Entry.{Entry}
use Rattle.sst_entries.specs.Stream.{YieldsExactly, Runs, answer_stops, front_of, nowhere, ok_results}
use Rattle.std.specs.Prelude.{nat_lt}
use Rattle.sst_entries.proofs.FrontLemmas.{yields_in_front as yields_front}
use Rattle.sst_blocks.specs.table.Chunks.{joined}
use Rattle.lsm_sorted.specs.merge.Ends.{R}
use Rattle.lsm_sorted.specs.merge.InPlace.{merge_of}
use Rattle.lsm_sorted.specs.merge.MergeLaws.{YieldSorted, YieldsInPlace, YieldsMerged}
use Rattle.lsm_sorted.specs.merge.Union.{all_entries, newest, sort_entries, union_of}
use Rattle.lsm_sorted.proofs.UnionLemmas.{ascends_in_order}
use Rattle.lsm_sorted.specs.Below.{below_of, numbered_below}
use Rattle.lsm_sorted.specs.lending.LentNewest.{YieldsNewestEntries, YieldsNewestResults}
use Rattle.lsm_sorted.specs.declared.below.Below.{Below}
use Rattle.lsm_sorted.proofs.BelowLemmas.{below_entries, yields_in_front}
use Rattle.lsm_sorted.specs.LentBelow.{LendsBelow, MayLendBelow}
use Rattle.lsm_runs.specs.LentNewestRuns.{LendsNewest}
use Rattle.lsm_runs.specs.LentRun.{RunLends}
use Rattle.lsm_runs.specs.RunLists.{YieldTogether, YieldsList}
use Rattle.lsm_runs.specs.RunRange.{OpensAtMost, RunGives, RunRange, front_tables}
use Rattle.lsm_runs.proofs.MergeOrder.{merged_ascends}
use Rattle.lsm_runs.proofs.Numbered.{each_ascends as numbered_ascend, numbered_joined}
use Rattle.lsm_runs.proofs.Together.{each_ascends, each_yields}
use Rattle.lsm_runs.proofs.Unions.{entries_joined, filter_sorted, no_errors_joined}

-- ---- a reader lends what it deals

module _ {A : Type 0} (back : RunRange A → Option R → RunRange A → Type 0) where
  abbrev Gives : RunRange A → Option R → RunRange A → Type 0
  Gives = RunGives front_of front_tables

  gives_along : (ends : List Direction) (rs : List (Option R)) (s t : RunRange A)
      → Runs RunLends back s ends rs t → Runs Gives back s ends rs t
  gives_along [] [] s t runs = runs
  gives_along [] (r ∷ rs) s t runs = absurd runs
  gives_along (e ∷ ends) [] s t runs = absurd runs
  gives_along (Front ∷ ends) (r ∷ rs) s t runs =
      (runs.0, runs.1.gives, gives_along ends rs runs.0 t runs.2)
  gives_along (Back ∷ ends) (r ∷ rs) s t runs =
      (runs.0, runs.1, gives_along ends rs runs.0 t runs.2)

  pub lends_list : (s : RunRange A) (es : List Entry) → YieldsList Gives back es s
      → YieldsList RunLends back es s
  lends_list s es yields stops memory = record {
    answers = λ ends rs t runs fine.
        (yields stops memory).answers ends rs t (gives_along ends rs s t runs) fine;
  }

  -- and opens no more tables
  pub lends_few : (s : RunRange A) (most : ℕ) → OpensAtMost Gives back most s
      → OpensAtMost RunLends back most s
  lends_few s most few ends rs t runs = few ends rs t (gives_along ends rs s t runs)

-- ---- sources with two ends, from the front alone

module _ {S : Type 0} (front back : S → Option R → S → Type 0) where
  each_front : (sources : List S) (yielded : List (List Entry))
      → AllZip (λ (s : S) (es : List Entry). YieldsList front back es s) sources yielded
      → AllZip (λ (s : S) (es : List Entry). YieldsList front nowhere es s) sources yielded
  each_front [] [] all = tt
  each_front [] (es ∷ yielded) all = absurd all
  each_front (s ∷ sources) [] all = absurd all
  each_front (s ∷ sources) (es ∷ yielded) all = (
    λ stops memory. yields_front (answer_stops stops) front back s (ok_results es)
        (all.0 stops memory),
    each_front sources yielded all.1,
  )

  pub together_front : (sources : List S) (found : List (List Entry))
      → YieldTogether front back sources found → YieldTogether front nowhere sources found
  together_front sources found d = record {
    yielded = d.yielded;
    same = d.same;
    ascend = d.ascend;
    yield_each = each_front sources d.yielded d.yield_each;
  }

-- ---- below a bound

module _ (bound : ℕ) {S : Type 0} (advances : S → Option R → S → Type 0) (can : S → Type 0)
    (left : S → ℕ) where
  abbrev pub Lent : Below S → Option R → Below S → Type 0
  Lent = LendsBelow advances can left

  one_below : (s : S) (es : List Entry) → YieldsList advances nowhere es s
      → YieldsList Lent nowhere (numbered_below bound es) (below_of bound s)
  one_below s es yields stops memory =
      subst (λ (rs : List R). YieldsExactly (answer_stops stops) Lent nowhere (below_of bound s) rs)
      (below_entries bound es)
      ((yields_in_front advances (MayLendBelow advances can left) s bound (below_of bound s)
      refl).yields stops (ok_results es) (yields stops memory))

  each_below : (sources : List S) (yielded : List (List Entry))
      → AllZip (λ (s : S) (es : List Entry). YieldsList advances nowhere es s) sources yielded
      → AllZip (λ (s : Below S) (es : List Entry). YieldsList Lent nowhere es s)
      (map (below_of bound) sources) (map (numbered_below bound) yielded)
  each_below [] [] all = tt
  each_below [] (es ∷ yielded) all = absurd all
  each_below (s ∷ sources) [] all = absurd all
  each_below (s ∷ sources) (es ∷ yielded) all =
      (one_below s es all.0, each_below sources yielded all.1)

  together_below : (sources : List S) (found : List (List Entry))
      → YieldTogether advances nowhere sources found
      → YieldTogether Lent nowhere (map (below_of bound) sources) (map (numbered_below bound) found)
  together_below sources found d = record {
    yielded = map (numbered_below bound) d.yielded;
    same = sym (numbered_joined bound d.yielded) ∙ ap (numbered_below bound) d.same
        ∙ numbered_joined bound found;
    ascend = numbered_ascend bound d.yielded d.ascend;
    yield_each = each_below sources d.yielded d.yield_each;
  }

-- ---- what is newest

-- of sources that are merged
pub lends_newest : {S M T : Type 0} (advances : S → Option R → S → Type 0) (its : List S)
    (merged : M → Option R → M → Type 0) (m : M) (next : T → Option R → T → Type 0) (t : T)
    → YieldsMerged advances nowhere its merged nowhere m → YieldsNewestEntries merged m next t
    → YieldsInPlace advances nowhere its merged nowhere m → YieldsNewestResults merged m next t
    → LendsNewest advances its next t
lends_newest advances its merged m next t both news placed results = record {
  yields = λ stops lists memory sorted none.
      news.yields stops (union_of lists) memory (ascends_in_order (all_entries lists))
      (both.yields stops lists sorted none);
  places = λ stops lists memory sorted.
      results.yields stops (merge_of lists) memory (merged_ascends lists)
      (placed.yields stops lists sorted);
}

newest_lent : {S T : Type 0} (advances : S → Option R → S → Type 0)
    (next : T → Option R → T → Type 0) (t : T) (sources : List S) (found : List (List Entry))
    → YieldTogether advances nowhere sources found → LendsNewest advances sources next t
    → YieldsList next nowhere (newest (sort_entries (joined found))) t
newest_lent advances next t sources found d law stops memory =
    let results = map (λ (es : List Entry). ok_results es) d.yielded in
    let sorted : YieldSorted advances nowhere stops sources results = record {
      yield_each = each_yields advances nowhere stops memory sources d.yielded d.yield_each;
      ascend = each_ascends advances nowhere d.yielded d.ascend;
    } in
    subst (λ (es : List Entry). YieldsExactly (answer_stops stops) next nowhere t
    (ok_results (newest (sort_entries es)))) (entries_joined d.yielded ∙ d.same)
    (law.yields stops results memory sorted (no_errors_joined d.yielded))

-- of sources below a bound
pub newest_below : {S T : Type 0} (bound : ℕ) (advances : S → Option R → S → Type 0)
    (can : S → Type 0) (left : S → ℕ) (next : T → Option R → T → Type 0) (t : T) (sources : List S)
    (found : List (List Entry)) (es : List Entry) (below : List (Below S))
    → below ≡ map (below_of bound) sources → sort_entries (joined found) ≡ es
    → YieldTogether advances nowhere sources found
    → LendsNewest (LendsBelow advances can left) below next t
    → YieldsList next nowhere (newest (numbered_below bound es)) t
newest_below {S} bound advances can left next t sources found es below are is d law =
    let returned = newest_lent (LendsBelow advances can left) next t (map (below_of bound) sources)
    (map (numbered_below bound) found) (together_below bound advances can left sources found d)
    (subst (λ (xs : List (Below S)). LendsNewest (LendsBelow advances can left) xs next t) are law)
    in
    subst (λ (us : List Entry). YieldsList next nowhere (newest us) t)
    (ap sort_entries (sym (numbered_joined bound found))
    ∙ sym (filter_sorted (λ (e : Entry). nat_lt e.seqno bound) (joined found))
    ∙ ap (numbered_below bound) is) returned

-- Readers of several runs: what they deal together, and the newest of it.
use Rattle.std.proofs.Common.{◌≡◌, refl, sym, ◌∙◌, ap, subst, ℕ, ◌+◌, ◌<◌, ◌≤◌, Bool, true, List}
use Rattle.std.proofs.Common.{[], ◌∷◌, ◌++◌, get_or, length, take, arith}
use Rattle.std.specs.Prelude.{All, Option, Some, ◌&&◌, map}
use Rattle.std.specs.List.{AllByRecursion, AllZip, slice_get}
use Rattle.std.specs.declared.ops.Bound.{Bound}
use Rattle.std.proofs.lemmas.List.{append-nil, take_all, length-map}
use Rattle.std.proofs.lemmas.List.Concat.{flat_map-append}
use Rattle.std.proofs.lemmas.List.Elements.{All-from_recursion}
use Rattle.std.proofs.lemmas.Simd.{map-map}
use Rattle.std.proofs.lemmas.Slice.Zip.{AllZip-long}
use Rattle.sst_entries.specs.declared.error.Error.{Error}
use Rattle.sst_entries.specs.declared.error.Error.TheVariants.{OutOfMemory}
use Rattle.sst_entries.specs.Entry.{Entry}
use Rattle.sst_entries.specs.Point.{is_from, is_to, within}
use Rattle.sst_entries.specs.Stream.{YieldsExactly, answer_stops, ok_results}
use Rattle.sst_entries.proofs.Lists.{all_append}
use Rattle.sst_blocks.specs.table.Chunks.{joined}
use Rattle.lsm_sorted.specs.merge.Ends.{R}
use Rattle.lsm_sorted.specs.merge.MergeLaws.{YieldSorted}
use Rattle.lsm_sorted.specs.merge.Union.{Ascends, all_entries, entries_among, newest, sort_entries}
use Rattle.lsm_sorted.specs.version.Run.{IsInOrder}
use Rattle.lsm_readers.specs.point.Table.{OpenTable}
use Rattle.lsm_sorted.specs.NewestLaws.{YieldsNewest}
use Rattle.lsm_runs.specs.RunLists.{YieldTogether, YieldsList, HoldLists, RunsHoldLists}
use Rattle.lsm_run_parts.specs.RunParts.{range_of}
use Rattle.lsm_runs.specs.SeveralRuns.{union_in}
use Rattle.lsm_runs.proofs.Rising.{ascends_of, run_strict, strict_within}
use Rattle.lsm_runs.proofs.RunLoops.{mapped_at, take_next, zip_at}
use Rattle.lsm_runs.proofs.Unions.{entries_joined, entries_of, no_errors_joined, within_joined}
use Rattle.lsm_runs.proofs.Unions.{within_sorted}

-- what holds of anything holds of each of a list
pub all_of : {X : Type 0} (P : X → Type 0) → ((x : X) → P x) → (xs : List X) → All P xs
all_of {X} P each xs = All-from_recursion P xs (one_by_one xs)
  where
    one_by_one : (ys : List X) → AllByRecursion P ys
    one_by_one [] = tt
    one_by_one (y ∷ ys) = (each y, one_by_one ys)

pub zip_push : {A B : Type 0} (Q : A → B → Type 0) (xs : List A) (ys : List B) (x : A) (y : B)
    → AllZip Q xs ys → Q x y → AllZip Q (xs ++ x ∷ []) (ys ++ y ∷ [])
zip_push Q [] [] x y all one = (one, tt)
zip_push Q [] (z ∷ zs) x y all one = absurd all
zip_push Q (z ∷ zs) [] x y all one = absurd all
zip_push Q (z ∷ zs) (u ∷ us) x y all one = (all.0, zip_push Q zs us x y all.1 one)

pub join : (xs ys : List (List Entry)) → joined (xs ++ ys) ≡ joined xs ++ joined ys
join xs ys = flat_map-append (λ (c : List Entry). c) xs ys

-- what of a run's lists lies within two bounds
abbrev pub cut : Bound (List ℕ) → Bound (List ℕ) → List (List Entry) → List Entry
cut low high ls = within low high (joined ls)

module _ {S : Type 0} (front back : S → Option R → S → Type 0) where
  -- ---- one reader after another

  pub none_together : YieldTogether front back [] []
  none_together = record { yielded = []; same = refl; ascend = tt; yield_each = tt }

  -- one more reader, of sorted entries
  pub one_more : (sources : List S) (found : List (List Entry)) (s : S) (es : List Entry)
      → YieldTogether front back sources found → Ascends es → YieldsList front back es s
      → YieldTogether front back (sources ++ s ∷ []) (found ++ es ∷ [])
  one_more sources found s es d up yields = record {
    yielded = d.yielded ++ es ∷ [];
    same = join d.yielded (es ∷ []) ∙ ap (λ (xs : List Entry). xs ++ joined (es ∷ [])) d.same
        ∙ sym (join found (es ∷ []));
    ascend = all_append Ascends d.yielded (es ∷ []) d.ascend (up, tt);
    yield_each = zip_push (λ (t : S) (xs : List Entry). YieldsList front back xs t) sources d.yielded s es
        d.yield_each yields;
  }

  -- no reader, where there is nothing
  pub none_more : (sources : List S) (found : List (List Entry)) (es : List Entry)
      → YieldTogether front back sources found → es ≡ []
      → YieldTogether front back sources (found ++ es ∷ [])
  none_more sources found es d none = record {
    yielded = d.yielded;
    same = d.same ∙ sym (join found (es ∷ []) ∙ ap
        (λ (xs : List Entry). joined found ++ (xs ++ [])) none ∙ append-nil (joined found));
    ascend = d.ascend;
    yield_each = d.yield_each;
  }

  -- ---- what is newest of all

  pub each_yields : (stops : Error → Bool) → stops OutOfMemory ≡ true
      → (sources : List S) (yielded : List (List Entry))
      → AllZip (λ (s : S) (es : List Entry). YieldsList front back es s) sources yielded
      → AllZip (YieldsExactly (answer_stops stops) front back) sources
      (map (λ (es : List Entry). ok_results es) yielded)
  each_yields stops memory [] [] all = tt
  each_yields stops memory [] (es ∷ yielded) all = absurd all
  each_yields stops memory (s ∷ sources) [] all = absurd all
  each_yields stops memory (s ∷ sources) (es ∷ yielded) all =
      (all.0 stops memory, each_yields stops memory sources yielded all.1)

  pub each_ascends : (yielded : List (List Entry)) → AllByRecursion Ascends yielded
      → AllByRecursion (λ (rs : List R). Ascends (entries_among rs))
      (map (λ (es : List Entry). ok_results es) yielded)
  each_ascends [] up = tt
  each_ascends (es ∷ yielded) up = (subst Ascends (sym (entries_of es)) up.0, each_ascends yielded up.1)

  -- what is newest of the entries that they have together, sorted
  pub newest_yielded : {T : Type 0} (next next_back : T → Option R → T → Type 0) (t : T)
      (sources : List S) (found : List (List Entry)) → YieldTogether front back sources found
      → YieldsNewest front back sources next next_back t
      → YieldsList next next_back (newest (sort_entries (joined found))) t
  newest_yielded next next_back t sources found d law stops memory =
      let results = map (λ (es : List Entry). ok_results es) d.yielded in
      let sorted : YieldSorted front back stops sources results = record {
        yield_each = each_yields stops memory sources d.yielded d.yield_each;
        ascend = each_ascends d.yielded d.ascend;
      } in
      subst (λ (es : List Entry). YieldsExactly (answer_stops stops) next next_back t
      (ok_results (newest (sort_entries es)))) (entries_joined d.yielded ∙ d.same)
      (law.yields stops results sorted (no_errors_joined d.yielded))

  module _ (low high : Bound (List ℕ)) (lists : List (List (List Entry))) where
    -- what all lists have together
    all_lists : all_entries (map (λ (run : List (List Entry)). ok_results (joined run)) lists)
        ≡ joined (map joined lists)
    all_lists = ap all_entries (sym (map-map (λ (es : List Entry). ok_results es) joined lists))
        ∙ entries_joined (map joined lists)

    cut_all : joined (map (cut low high) lists) ≡ within low high (joined (map joined lists))
    cut_all = ap joined (sym (map-map (within low high) joined lists))
        ∙ sym (within_joined low high (map joined lists))

    pub union_cut : sort_entries (joined (map (cut low high) lists))
        ≡ within low high (union_in lists)
    union_cut =
        ap sort_entries cut_all
        ∙ sym (within_sorted low high (joined (map joined lists)))
        ∙ ap (λ (es : List Entry). within low high (sort_entries es)) (sym all_lists)

    pub newest_together : {T : Type 0} (next next_back : T → Option R → T → Type 0) (t : T)
        (sources : List S) → YieldTogether front back sources (map (cut low high) lists)
        → YieldsNewest front back sources next next_back t
        → YieldsList next next_back (newest (within low high (union_in lists))) t
    newest_together next next_back t sources d law =
        subst (λ (es : List Entry). YieldsList next next_back (newest es) t) union_cut
        (newest_yielded next next_back t sources (map (cut low high) lists) d law)

-- ---- a loop over runs, of which those up to a place have readers

module _ {S X : Type 0} (front back : S → Option R → S → Type 0) (f : X → List OpenTable)
    (low high : Bound (List ℕ)) (xs : List X) (i : ℕ) (lists : List (List (List Entry)))
    (held : RunsHoldLists (map f xs) lists) where
  abbrev pub ReadSoFar : List S → ℕ → Type 0
  ReadSoFar sources n = YieldTogether front back sources (take n (map (cut low high) lists))

  abbrev Held : List OpenTable → List (List Entry) → Type 0
  Held tables ls = IsInOrder range_of tables × HoldLists tables ls

  pub read_all : (sources : List S) → ReadSoFar sources i → length xs ≤ i
      → YieldTogether front back sources (map (cut low high) lists)
  read_all sources d past =
      let many : length (map (cut low high) lists) ≤ i =
      omega (
        arith,
        length-map lists (cut low high),
        AllZip-long Held
            (map f xs) lists held,
        length-map xs f,
        past,
      ) in
      subst (λ (found : List (List Entry)). YieldTogether front back sources found)
      (take_all i (map (cut low high) lists) many) d

  module _ (x : X) (less : i < length xs) (is : x ≡ get_or xs i x) (sources : List S)
      (d : ReadSoFar sources i) where
    own : (ls : List (List Entry)) × (slice_get lists i ≡ Some ls) × Held (f x) ls
    own = zip_at f Held xs lists i x held less is

    one_found : take (i + 1) (map (cut low high) lists) ≡ take i (map (cut low high) lists)
        ++ cut low high own.0 ∷ []
    one_found = take_next (map (cut low high) lists) i (cut low high own.0)
        (mapped_at (cut low high) lists i own.0 own.1)

    own_ascends : Ascends (cut low high own.0)
    own_ascends =
        ascends_of (cut low high own.0)
        (strict_within (λ (e : Entry). is_from low e.user_key && is_to high e.user_key)
        (joined own.0) (run_strict (f x) own.0 own.2.1 own.2.0))

    pub read_more : (s : S) → ((ls : List (List Entry)) → Held (f x) ls
        → YieldsList front back (cut low high ls) s) → ReadSoFar (sources ++ s ∷ []) (i + 1)
    read_more s yields =
        subst (λ (found : List (List Entry)). YieldTogether front back (sources ++ s ∷ []) found)
        (sym one_found)
        (one_more front back sources (take i (map (cut low high) lists)) s
        (cut low high own.0) d own_ascends (yields own.0 own.2))

    pub read_none : ((ls : List (List Entry)) → Held (f x) ls → cut low high ls ≡ [])
        → ReadSoFar sources (i + 1)
    read_none none =
        subst (λ (found : List (List Entry)). YieldTogether front back sources found) (sym one_found)
        (none_more front back sources (take i (map (cut low high) lists)) (cut low high own.0) d
        (none own.0 own.2))

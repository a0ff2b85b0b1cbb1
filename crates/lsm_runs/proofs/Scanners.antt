-- Scanners of several runs: what they deal together, merged.
use Rattle.std.proofs.Common.{◌≡◌, refl, sym, ◌∙◌, ap, subst, ℕ, zero, suc, ◌+◌, ◌-◌, ◌<◌, ◌≤◌}
use Rattle.std.proofs.Common.{false, List, [], ◌∷◌, ◌++◌, get_or, length, take, arith}
use Rattle.std.specs.Prelude.{Option, Some, None, Result, Ok, Err, IfErr, IfOk, map}
use Rattle.std.specs.List.{AllByRecursion, slice_get}
use Rattle.std.proofs.lemmas.List.{take_all, length-map}
use Rattle.std.proofs.lemmas.Simd.{map-map}
use Rattle.std.proofs.lemmas.Slice.Zip.{AllZip-long}
use Rattle.sst_entries.specs.declared.error.Error.{Error}
use Rattle.sst_entries.specs.declared.error.Error.TheVariants.{OutOfMemory}
use Rattle.sst_entries.specs.Entry.{Entry}
use Rattle.sst_entries.specs.Error.{is_memory}
use Rattle.sst_entries.specs.Stream.{CanYield, YieldsExactly, answer_stops, first, nowhere, ok_results}
use Rattle.sst_blocks.specs.table.Chunks.{joined}
use Rattle.lsm_sorted.specs.merge.Ends.{R}
use Rattle.lsm_sorted.specs.merge.MergeLaws.{YieldSorted, YieldsMerged}
use Rattle.lsm_sorted.specs.merge.Union.{Ascends, all_entries, sort_entries, union_of}
use Rattle.lsm_writers.proofs.Refused.{memory_alone}
use Rattle.lsm_sorted.specs.version.Run.{ArePlacesOf, IsInOrder}
use Rattle.lsm_readers.specs.Scan.{up_to_error}
use Rattle.lsm_readers.specs.point.Table.{OpenTable}
use Rattle.lsm_sorted.specs.declared.compaction.Rules.{Rules}
use Rattle.lsm_sorted.specs.Compaction.{kept, unfiltered}
use Rattle.lsm_sorted.specs.lending.LentCompaction.{YieldsCompactedEntries, YieldsCompactedResults}
use Rattle.lsm_sorted.specs.lending.LentCompaction.{lent_outs}
use Rattle.lsm_runs.specs.compaction.AnyRuns.{YieldsResults}
use Rattle.lsm_runs.specs.compaction.Compacted.{AreMergeable, HaveEntries}
use Rattle.lsm_runs.specs.RunLists.{YieldTogether, YieldsList, HoldLists}
use Rattle.lsm_run_parts.specs.RunParts.{ends_given, range_of}
use Rattle.lsm_runs.specs.RunScan.{RunScan, RunScansNext, tables_between, tables_scan}
use Rattle.lsm_runs.specs.SeveralRuns.{union_in}
use Rattle.lsm_runs.proofs.Rising.{ascends_of, run_strict}
use Rattle.lsm_runs.proofs.RunLoops.{mapped_at, take_next, zip_at}
use Rattle.lsm_runs.proofs.ScanSteps.{all_values, held_scans}
use Rattle.lsm_runs.proofs.Together.{each_ascends, each_yields, one_more}
use Rattle.lsm_runs.proofs.Unions.{entries_joined, no_errors_joined}

-- ---- a whole run

abbrev whole : List OpenTable → ℕ × ℕ
whole ts = ends_given ts (None, None)

pub whole_places : (ts : List OpenTable) → 0 < length ts → ArePlacesOf ts (whole ts)
whole_places ts some = (omega arith, omega (arith, some))

pub whole_run : (ts : List OpenTable) → 0 < length ts → tables_between ts (whole ts) ≡ ts
whole_run ts some = take_all (suc (length ts - 1) - 0) ts (omega (arith, some))

pub tables_there : (ts : List OpenTable) (ls : List (List Entry)) → HoldLists ts ls → HaveEntries ls
    → 0 < length ts
tables_there [] [] h some = some.0
tables_there [] (es ∷ ls) h some = absurd h
tables_there (t ∷ ts) ls h some = omega arith

-- nothing but want of memory refuses its scan
fault_first : (es : List Entry) (e : Error) → first (ok_results es) ≡ Some (Err e) → ⊥
fault_first [] e h = let no : None ≡ Some (Err e) = h in cc
fault_first (x ∷ es) e h = let no : Some (Ok x) ≡ Some (Err e) = h in cc

pub scan_wants : {X : Type 0} (ts : List OpenTable) (ls : List (List Entry)) → HoldLists ts ls
    → HaveEntries ls → (r : Result X Error)
    → IfErr r (λ e. is_memory e ≡ false → first (tables_scan ts) ≡ Some (Err e))
    → IfErr r (λ e. e ≡ OutOfMemory)
scan_wants ts ls h some (Ok x) returned = tt
scan_wants {X} ts ls h some (Err e) returned =
    let left : tables_scan ts ≡ ok_results (joined ls) =
    ap (λ (rs : List R). up_to_error rs) (held_scans ts ls h some.1) ∙ all_values (joined ls) in
    let refusal : Result X Error = Err e in
    memory_alone refusal None refl (λ fine. absurd
    (fault_first (joined ls) e (ap first (sym left) ∙ returned fine)))

-- a scan may always be asked
pub scan_asked : (s : RunScan) → CanYield RunScansNext nowhere (λ _. Unit {0}) (λ _. Unit {0}) s
scan_asked s = record { at = λ ends rs t runs. (tt, tt) }

-- ---- one run among several

all_there : {X : Type 0} (P : X → Type 0) (xs : List X) (i : ℕ) (x : X) → AllByRecursion P xs
    → slice_get xs i ≡ Some x → P x
all_there P [] i x all there = absurd cc
all_there P (y ∷ ys) zero x all there = let same : y ≡ x = cc in subst P same all.0
all_there P (y ∷ ys) (suc i) x all there = all_there P ys i x all.1 there

abbrev Held : List OpenTable → List (List Entry) → Type 0
Held tables ls = IsInOrder range_of tables × HoldLists tables ls

module _ {X : Type 0} (f : X → List OpenTable) (xs : List X) (able : AreMergeable (map f xs))
    (i : ℕ) where
  module _ (x : X) (less : i < length xs) (is : x ≡ get_or xs i x) where
    own : (ls : List (List Entry)) × (slice_get able.lists i ≡ Some ls) × Held (f x) ls
    own = zip_at f Held xs able.lists i x able.hold less is

    own_some : HaveEntries own.0
    own_some = all_there HaveEntries able.lists i own.0 able.some own.1

    pub own_tables : 0 < length (f x)
    own_tables = tables_there (f x) own.0 own.2.1 own_some

    -- what is said of its lists holds
    pub own_fact : {P : Type 0}
        → ((ls : List (List Entry)) → HoldLists (f x) ls → HaveEntries ls → P) → P
    own_fact fact = fact own.0 own.2.1 own_some

  module _ {S : Type 0} (front back : S → Option R → S → Type 0) where
    abbrev pub ScannedSoFar : List S → ℕ → Type 0
    ScannedSoFar sources n = YieldTogether front back sources (take n (map joined able.lists))

    pub scanned_all : (sources : List S) → ScannedSoFar sources i → length xs ≤ i
        → YieldTogether front back sources (map joined able.lists)
    scanned_all sources d past =
        let many : length (map joined able.lists) ≤ i =
        omega (
          arith,
          length-map able.lists joined,
          AllZip-long Held
              (map f xs) able.lists able.hold,
          length-map xs f,
          past,
        ) in
        subst (λ (found : List (List Entry)). YieldTogether front back sources found)
        (take_all i (map joined able.lists) many) d

    pub scanned_more : (x : X) (less : i < length xs) (is : x ≡ get_or xs i x) (sources : List S)
        (d : ScannedSoFar sources i) (s : S)
        → ((ls : List (List Entry)) → HoldLists (f x) ls → HaveEntries ls
        → YieldsList front back (joined ls) s) → ScannedSoFar (sources ++ s ∷ []) (i + 1)
    scanned_more x less is sources d s yields =
        let o = own x less is in
        let one : take (i + 1) (map joined able.lists) ≡ take i (map joined able.lists)
        ++ joined o.0 ∷ [] =
        take_next (map joined able.lists) i (joined o.0) (mapped_at joined able.lists i o.0 o.1) in
        let up : Ascends (joined o.0) = ascends_of (joined o.0)
        (run_strict (f x) o.0 o.2.1 o.2.0) in
        subst (λ (found : List (List Entry)). YieldTogether front back (sources ++ s ∷ []) found)
        (sym one)
        (one_more front back sources (take i (map joined able.lists)) s (joined o.0) d up
        (yields o.0 o.2.1 (own_some x less is)))

-- ---- all of them, merged

module _ {S T : Type 0} (front back : S → Option R → S → Type 0)
    (next next_back : T → Option R → T → Type 0) where
  all_lists : (lists : List (List (List Entry)))
      → all_entries (map (λ (run : List (List Entry)). ok_results (joined run)) lists) ≡ joined
      (map joined lists)
  all_lists lists = ap all_entries (sym (map-map (λ (es : List Entry). ok_results es) joined lists))
      ∙ entries_joined (map joined lists)

  pub merged_together : (lists : List (List (List Entry))) (sources : List S) (t : T)
      → YieldTogether front back sources (map joined lists)
      → YieldsMerged front back sources next next_back t
      → YieldsList next next_back (union_in lists) t
  merged_together lists sources t d law stops memory =
      let results = map (λ (es : List Entry). ok_results es) d.yielded in
      let sorted : YieldSorted front back stops sources results = record {
        yield_each = each_yields front back stops memory sources d.yielded d.yield_each;
        ascend = each_ascends front back d.yielded d.ascend;
      } in
      let same : union_of results ≡ union_in lists =
      ap sort_entries (entries_joined d.yielded ∙ d.same ∙ sym (all_lists lists)) in
      subst (λ (es : List Entry). YieldsExactly (answer_stops stops) next next_back t (ok_results es)) same
      (law.yields stops results sorted (no_errors_joined d.yielded))

-- ---- and compacted

-- what lends is made, and where its source deals a list, it deals what is kept of that
pub kept_lent : {S T : Type 0} (front : S → Option R → S → Type 0)
    (next : T → Option R → T → Type 0) (source : S) (rules : Rules) (es : List Entry)
    (r : Result T Error) → IfOk r (λ t. YieldsCompactedEntries front source next t rules)
    → YieldsList front nowhere es source
    → IfOk r (YieldsList next nowhere (kept rules (unfiltered es)))
kept_lent front next source rules es (Ok t) law yields =
    λ stops memory. law.yields stops es memory (yields stops memory)
kept_lent front next source rules es (Err e) law yields = tt

-- the same for any results, each error in its position
pub results_lent : {S T : Type 0} (front : S → Option R → S → Type 0)
    (next : T → Option R → T → Type 0) (source : S) (rules : Rules) (xs : List R)
    (r : Result T Error) → IfOk r (λ t. YieldsCompactedResults front source next t rules)
    → YieldsResults front xs source → IfOk r (YieldsResults next (lent_outs rules xs))
results_lent front next source rules xs (Ok t) law yields =
    λ stops memory. law.yields stops xs memory (yields stops memory)
results_lent front next source rules xs (Err e) law yields = tt

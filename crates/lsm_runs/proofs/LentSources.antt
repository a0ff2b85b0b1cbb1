-- Readers of runs beside further lending sources, and a list as one of these.
use Rattle.std.proofs.Common.{◌≡◌, refl, sym, ap, subst, ◌∙◌, ℕ, Bool, true, false, List, [], ◌∷◌}
use Rattle.std.proofs.Common.{◌++◌, ◌+◌, ◌-◌, ◌≤◌, arith, drop, get_or, length, max, suc, take, zero}
use Rattle.std.specs.Prelude.{All, Option, map}
use Rattle.std.specs.List.{AllByRecursion, AllZip, slice_range}
use Rattle.std.specs.List.Sorted.{IsPartitionPoint}
use Rattle.std.specs.declared.ops.Bound.{Bound}
use Rattle.std.proofs.lemmas.List.Elements.{All-map}
use Rattle.either.specs.Either.{MatchEither, either}
use Rattle.either.specs.Iterator.{either_steps}
use Rattle.either.specs.declared.Either.{Either}
use Rattle.either.specs.declared.Either.TheVariants.{Left, Right}
use Rattle.sst_entries.specs.declared.error.Error.{Error}
use Rattle.sst_entries.specs.declared.error.Error.TheVariants.{OutOfMemory}
use Rattle.sst_entries.specs.Entry.{Entry}
use Rattle.sst_entries.specs.Point.{lower_place, upper_place, within}
use Rattle.sst_entries.specs.Span.{front_length}
use Rattle.sst_entries.specs.Strict.{IsStrict}
use Rattle.sst_entries.specs.Stream.{CanYield, YieldsExactly, answer_stops, but_first, first, nowhere}
use Rattle.sst_entries.specs.Stream.{ok_results}
use Rattle.sst_entries.proofs.FrontLemmas.{can_in_front, yields_in_front as front_yields}
use Rattle.sst_entries.proofs.StreamLemmas.{yields_by}
use Rattle.sst_blocks.proofs.Within.{range_within}
use Rattle.lsm_sorted.specs.merge.Ends.{R}
use Rattle.lsm_sorted.specs.merge.InPlace.{merge_of}
use Rattle.lsm_sorted.specs.merge.Union.{Ascends, entries_among}
use Rattle.lsm_sorted.specs.Below.{below_of, below_results}
use Rattle.lsm_sorted.specs.declared.below.Below.{Below}
use Rattle.lsm_sorted.specs.lending.LentNewest.{newest_results}
use Rattle.lsm_sorted.specs.LentBelow.{LendsBelow, MayLendBelow}
use Rattle.lsm_sorted.proofs.BelowLemmas.{yields_in_front}
use Rattle.lsm_sorted.proofs.LentBelows.{can_lend_below}
use Rattle.lsm_readers.specs.point.Table.{OpenTable}
use Rattle.lsm_run_parts.specs.RunParts.{RunSpan}
use Rattle.lsm_runs.specs.LentNewestRuns.{LendsNewest, LendsResults, runs_results_within, span_results}
use Rattle.lsm_runs.specs.LentRun.{RunLends}
use Rattle.lsm_runs.specs.LentSources.{EntriesLeft, LendEach, LendsFirst}
use Rattle.lsm_runs.specs.RunLists.{CanLend, YieldsList}
use Rattle.lsm_runs.specs.RunRange.{IsRunOf, RunRange, run_size}
use Rattle.lsm_runs.specs.SpansRead.{spans_within, with_readers}
use Rattle.lsm_runs.proofs.AllSources.{Behind, all_both, one_asked, one_yields}
use Rattle.lsm_runs.proofs.LentPlaces.{below_ascend, reader_lends}
use Rattle.lsm_runs.proofs.LentRunLaws.{lending_front}

-- ---- a list

abbrev IsLeft : EntriesLeft → List R → Type 0
IsLeft s xs = xs ≡ ok_results s.rest

but_first_entry : (es : List Entry) → but_first (ok_results es) ≡ ok_results (but_first es)
but_first_entry [] = refl
but_first_entry (e ∷ es) = refl

list_front : (stops : Error → Bool) (s : EntriesLeft) (xs : List R) (r : Option R)
    (t : EntriesLeft) → IsLeft s xs → LendsFirst s r t → answer_stops stops r ≡ false
    → (r ≡ first xs) × IsLeft t (but_first xs)
list_front stops s xs r t has step fine = (
  step.0 ∙ ap first (sym has),
  ap but_first has ∙ but_first_entry s.rest ∙ ap (λ (es : List Entry). ok_results es) (sym step.1),
)

pub list_yields : (s : EntriesLeft) → YieldsList LendsFirst nowhere s.rest s
list_yields s stops memory =
    yields_by (answer_stops stops) LendsFirst nowhere IsLeft (list_front stops)
    (λ s xs r t has step fine. absurd step) s (ok_results s.rest) refl

pub list_can : (s : EntriesLeft) → CanLend LendsFirst (λ _. Unit {0}) s
list_can s = record { at = λ ends rs t runs. (tt, tt) }

-- ---- the index at which a test first fails

pub place_is : {X : Type 0} (p : X → Bool) (xs : List X) (n : ℕ) → n ≤ length xs
    → IsPartitionPoint (λ y. p y ≡ true) (λ y. p y ≡ false) xs n → n ≡ front_length p xs
place_is p [] n le h = omega (arith, le)
place_is p (x ∷ xs) zero le h =
    let fails : p x ≡ false = h.1 0 x (omega arith) (omega arith) in
    rw fails refl
place_is p (x ∷ xs) (suc n) le h =
    let passes : p x ≡ true = h.0 0 x (omega arith) (omega arith) in
    let more : n ≡ front_length p xs = place_is p xs n (omega (arith, le)) (
      λ k d low up. h.0 (suc k) d (omega arith) (omega (arith, up)),
      λ k d low up. h.1 (suc k) d (omega (arith, low)) (omega (arith, up)),
    ) in
    let one : suc n ≡ 1 + n = omega arith in
    rw passes (one ∙ ap (λ (k : ℕ). 1 + k) more)

-- ---- the entries between two places

pub lent_within : (low high : Bound (List ℕ)) (es : List Entry) (from to upto : ℕ) → IsStrict es
    → from ≡ lower_place low es → to ≡ upper_place high es → upto ≡ max to from
    → slice_range es from upto ≡ within low high es
lent_within low high es from to upto strict from_is to_is upto_is =
    let same : upto - from ≡ to - from = omega (arith, upto_is) in
    ap (λ (n : ℕ). take n (drop from es)) same
    ∙ ap (λ (n : ℕ). slice_range es n to) from_is
    ∙ ap (slice_range es (lower_place low es)) to_is ∙ range_within low high es strict

-- ---- readers of runs beside further sources

module _ {A S : Type 0} (advances : S → Option R → S → Type 0) (can : S → Type 0) (left : S → ℕ)
    (bound : ℕ) where
  abbrev pub Lends : Either (RunRange A) S → Option R → Either (RunRange A) S → Type 0
  Lends = either_steps RunLends advances

  abbrev pub Can : Either (RunRange A) S → Type 0
  Can e = MatchEither e (λ _. Unit {0}) can

  abbrev pub all_left : Either (RunRange A) S → ℕ
  all_left = either run_size left

  abbrev pub Low : Below (Either (RunRange A) S) → Option R → Below (Either (RunRange A) S) → Type 0
  Low = LendsBelow Lends Can all_left

  abbrev pub CanLow : Below (Either (RunRange A) S) → Type 0
  CanLow = MayLendBelow Lends Can all_left

  abbrev BehindNone : Either (RunRange A) S → Option R → Either (RunRange A) S → Type 0
  BehindNone = Behind RunLends nowhere advances nowhere

  either_lends : (stops : Error → Bool) (e : Either (RunRange A) S) (xs : List R)
      → MatchEither e (λ s. YieldsExactly (answer_stops stops) RunLends nowhere s xs)
      (λ s. YieldsExactly (answer_stops stops) advances nowhere s xs)
      → YieldsExactly (answer_stops stops) Low nowhere (below_of bound e) (below_results bound xs)
  either_lends stops e xs has =
      (yields_in_front Lends CanLow e bound (below_of bound e) refl).yields stops xs
      (front_yields (answer_stops stops) Lends BehindNone e xs
      (one_yields RunLends nowhere advances nowhere stops e xs has))

  readers_lend : (stops : Error → Bool) → stops OutOfMemory ≡ true → (ss : List (RunRange A))
      (spans : List (List OpenTable × RunSpan))
      → AllZip (λ (u : RunRange A) (run : List OpenTable × RunSpan). IsRunOf run.0 run.1 u)
      ss spans
      → AllZip (YieldsExactly (answer_stops stops) Low nowhere)
      (map (below_of bound) (map (λ (s : RunRange A). Left s) ss))
      (map (below_results bound) (map span_results spans))
  readers_lend stops memory [] [] all = tt
  readers_lend stops memory [] (run ∷ spans) all = absurd all
  readers_lend stops memory (s ∷ ss) [] all = absurd all
  readers_lend stops memory (s ∷ ss) (run ∷ spans) all = (
    either_lends stops (Left s) (span_results run) (reader_lends s run all.0 stops memory),
    readers_lend stops memory ss spans all.1,
  )

  all_lend : (stops : Error → Bool) → stops OutOfMemory ≡ true → (sources : List S)
      (given : List (List R)) → LendEach advances given sources → (ss : List (RunRange A))
      (spans : List (List OpenTable × RunSpan))
      → AllZip (λ (u : RunRange A) (run : List OpenTable × RunSpan). IsRunOf run.0 run.1 u)
      ss spans
      → AllZip (YieldsExactly (answer_stops stops) Low nowhere)
      (map (below_of bound) (with_readers sources ss))
      (map (below_results bound) (given ++ map span_results spans))
  all_lend stops memory [] [] each ss spans all = readers_lend stops memory ss spans all
  all_lend stops memory [] (rs ∷ given) each ss spans all = absurd each
  all_lend stops memory (s ∷ sources) [] each ss spans all = absurd each
  all_lend stops memory (s ∷ sources) (rs ∷ given) each ss spans all = (
    either_lends stops (Right s) rs (each.0 stops memory),
    all_lend stops memory sources given each.1 ss spans all,
  )

  -- the newest of all results
  pub newest_of_all : {T : Type 0} (next : T → Option R → T → Type 0) (t : T)
      (low high : Bound (List ℕ)) (runs : List (List OpenTable)) (ss : List (RunRange A))
      (sources : List S) (given : List (List R)) (below : List (Below (Either (RunRange A) S)))
      → below ≡ map (below_of bound) (with_readers sources ss)
      → AllZip (λ (u : RunRange A) (run : List OpenTable × RunSpan). IsRunOf run.0 run.1 u)
      ss (spans_within low high runs)
      → LendEach advances given sources
      → AllByRecursion (λ (rs : List R). Ascends (entries_among rs))
      (given ++ runs_results_within low high runs)
      → LendsNewest Low below next t
      → LendsResults next (newest_results (merge_of
      (map (below_results bound) (given ++ runs_results_within low high runs)))) t
  newest_of_all next t low high runs ss sources given below are spans each up law stops memory =
      let returned = map (below_results bound) (given ++ runs_results_within low high runs) in
      law.places stops returned memory (record {
        yield_each = subst (λ (bs : List (Below (Either (RunRange A) S))). AllZip
            (YieldsExactly (answer_stops stops) Low nowhere) bs returned) (sym are)
            (all_lend stops memory sources given each ss (spans_within low high runs) spans);
        ascend = below_ascend bound (given ++ runs_results_within low high runs) up;
      })

  either_can : (e : Either (RunRange A) S) → MatchEither e (λ _. Unit {0}) (CanLend advances can)
      → CanLend Low CanLow (below_of bound e)
  either_can e may =
      can_lend_below Lends Can all_left (below_of bound e)
      (can_in_front Lends BehindNone Can Can e
      (one_asked RunLends nowhere advances nowhere (λ _. Unit {0}) (λ _. Unit {0}) can can e
      (both e may)))
    where
      both : (e : Either (RunRange A) S) → MatchEither e (λ _. Unit {0}) (CanLend advances can)
          → MatchEither e (CanLend RunLends (λ _. Unit {0})) (CanLend advances can)
      both (Left s) may = (lending_front s).can
      both (Right s) may = may

  pub all_can : (ss : List (RunRange A)) (sources : List S) → All (CanLend advances can) sources
      → All (CanLend Low CanLow) (map (below_of bound) (with_readers sources ss))
  all_can ss sources may =
      All-map (CanLend Low CanLow) (below_of bound) (with_readers sources ss)
      (all_both (λ (e : Either (RunRange A) S). CanLend Low CanLow (below_of bound e)) ss sources
      (λ k d less. either_can (Left (get_or ss k d)) tt)
      (λ k d less. either_can (Right (get_or sources k d)) (may k d less)))

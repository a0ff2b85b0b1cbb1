-- The newest versions of lending sources.
use Rattle.std.specs.Prelude.{◌≡◌, ℕ, Bool, true, IfOk, List, [], map, Option, Result}
use Rattle.std.specs.List.{AllByRecursion}
use Rattle.std.specs.declared.ops.Bound.{Bound}
use Rattle.std.specs.declared.sync.Arc.{Arc}
use Rattle.sst_entries.specs.declared.error.Error.{Error}
use Rattle.sst_entries.specs.declared.error.Error.TheVariants.{OutOfMemory}
use Rattle.sst_entries.specs.Stream.{YieldsExactly, answer_stops, nowhere, ok_results}
use Rattle.lsm_sorted.specs.merge.Ends.{R}
use Rattle.lsm_sorted.specs.merge.InPlace.{merge_of, up_to_error}
use Rattle.lsm_sorted.specs.merge.MergeLaws.{YieldSorted}
use Rattle.lsm_sorted.specs.merge.Union.{Ascends, all_errors, entries_among, newest, union_of}
use Rattle.lsm_readers.specs.point.Table.{OpenTable}
use Rattle.lsm_sorted.specs.Below.{below_results}
use Rattle.lsm_sorted.specs.lending.LentNewest.{newest_results}
use Rattle.lsm_run_parts.specs.RunParts.{RunSpan, span_parts}
use Rattle.lsm_run_parts.specs.Tables.{run_parts_results}
use Rattle.lsm_runs.specs.RunLists.{AreRunsInOrder, each_run}
use Rattle.lsm_runs.specs.SpansRead.{spans_within}

-- up to `OutOfMemory`, a stream lends the newest versions of sorted sources: of their union, or,
-- with errors among them, of their merge up to the first error
pub record LendsNewest {S T : Type 0} (advances : S → Option R → S → Type 0) (its : List S)
    (next : T → Option R → T → Type 0) (t : T) : Type 0 where
  pub yields : (stops : Error → Bool) (lists : List (List R)) → stops OutOfMemory ≡ true
      → YieldSorted advances nowhere stops its lists → all_errors lists ≡ []
      → YieldsExactly (answer_stops stops) next nowhere t (ok_results (newest (union_of lists)))
  pub places : (stops : Error → Bool) (lists : List (List R)) → stops OutOfMemory ≡ true
      → YieldSorted advances nowhere stops its lists
      → YieldsExactly (answer_stops stops) next nowhere t (newest_results (merge_of lists))

-- up to `OutOfMemory`, a source lends exactly these results
abbrev pub LendsResults : {S : Type 0} → (S → Option R → S → Type 0) → List R → S → Type 0
LendsResults advances rs s = (stops : Error → Bool) → stops OutOfMemory ≡ true →
    YieldsExactly (answer_stops stops) advances nowhere s rs

-- the results of a span's tables up to the first error, with the bounds applied where the span
-- begins or ends
abbrev pub span_results : List OpenTable × RunSpan → List R
span_results run = up_to_error (run_parts_results (span_parts run.1 run.0))

-- the same of each run that has a table whose range reaches past both bounds
abbrev pub runs_results_within : Bound (List ℕ) → Bound (List ℕ) → List (List OpenTable)
    → List (List R)
runs_results_within low high runs = map span_results (spans_within low high runs)

-- the entries among each of these results come in order
abbrev pub EachAscends : List (List R) → Type 0
EachAscends lists = AllByRecursion (λ rs. Ascends (entries_among rs)) lists

-- runs in order, whose entries within the bounds come in order up to each run's first error: a call
-- returned a source that lends the newest of these results below a seqno, merged up to the first
-- error
abbrev pub RunsLendNewest : {S Z : Type 0} → (S → Option R → S → Type 0) → ℕ → Bound (List ℕ)
    → Bound (List ℕ) → List (Arc (List OpenTable) Z) → Result S Error → Type 0
RunsLendNewest advances bound low high runs r =
    let returned = runs_results_within low high (each_run runs) in
    AreRunsInOrder runs → EachAscends returned →
    IfOk r (LendsResults advances (newest_results (merge_of (map (below_results bound) returned))))

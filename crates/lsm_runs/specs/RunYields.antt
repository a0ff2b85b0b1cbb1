-- What a call that returns a reader or a scanner of a run promises of it.
use Rattle.std.specs.Prelude.{◌≡◌, ◌+◌, ◌-◌, ◌<◌, ℕ, All, List, [], length, map, IfOk, IfSome}
use Rattle.std.specs.Prelude.{MatchOption, None, Option, Result, Some}
use Rattle.std.specs.Iterator.{Count, IsFinite}
use Rattle.std.specs.List.{AllByRecursion}
use Rattle.std.specs.declared.ops.Bound.{Bound}
use Rattle.std.specs.declared.sync.Arc.{Arc}
use Rattle.std.specs.declared.vec.Vec.{Vec}
use Rattle.sst_entries.specs.declared.error.Error.{Error}
use Rattle.sst_entries.specs.Entry.{Entry}
use Rattle.sst_entries.specs.Point.{within}
use Rattle.sst_entries.specs.Stream.{CanYield, nowhere}
use Rattle.sst_blocks.specs.table.Chunks.{joined}
use Rattle.lsm_iters.specs.block_index.Yielded.{YieldsEnding}
use Rattle.lsm_sorted.specs.Below.{numbered_below}
use Rattle.lsm_sorted.specs.merge.Union.{newest}
use Rattle.lsm_sorted.specs.version.Run.{IsInOrder, overlap_indexes}
use Rattle.lsm_readers.specs.point.Table.{OpenTable}
use Rattle.lsm_run_parts.specs.RunParts.{ends_given, range_of, span_of}
use Rattle.lsm_runs.specs.RunLists.{HoldLists, OnLists, YieldTogether, YieldsList, span_list}
use Rattle.lsm_runs.specs.RunRange.{IsRunOf, OpensAtMost, RunRange, run_left}
use Rattle.lsm_runs.specs.RunScan.{tables_between, tables_scan}
use Rattle.lsm_runs.specs.SeveralRuns.{union_in}

-- ---- a reader of what a run has within two bounds; none if no table's range reaches past both

-- the reader has not been called, and is of the span of these tables
abbrev pub IsReaderWithin : {A : Type 0} → List OpenTable → Bound (List ℕ) → Bound (List ℕ)
    → Result (Option (RunRange A)) Error → Type 0
IsReaderWithin tables low high r =
    IsInOrder range_of tables →
    let found = overlap_indexes low high (map range_of tables) in
    IfOk r (λ o. MatchOption o (found ≡ None)
    (λ reader. (ends : ℕ × ℕ) × (found ≡ Some ends) × IsRunOf tables (span_of ends low high) reader))

-- from these ends it yields the entries within the bounds of the lists that the tables hold
abbrev pub ReaderYieldsList : {S : Type 0}
    (front back : S → Option (Result Entry Error) → S → Type 0) → List OpenTable
    → Bound (List ℕ) → Bound (List ℕ) → Result (Option S) Error → Type 0
ReaderYieldsList front back tables low high r =
    IsInOrder range_of tables → (lists : List (List Entry)) → HoldLists tables lists →
    let found = within low high (joined lists) in
    IfOk r (λ o. MatchOption o (found ≡ []) (λ reader. YieldsList front back found reader))

-- it opens at most the tables of the span
abbrev pub ReaderOpensFew : {A : Type 0}
    (front back : RunRange A → Option (Result Entry Error) → RunRange A → Type 0)
    → List OpenTable → Bound (List ℕ) → Bound (List ℕ) → Result (Option (RunRange A)) Error
    → Type 0
ReaderOpensFew front back tables low high r =
    IsInOrder range_of tables → (ends : ℕ × ℕ) →
    overlap_indexes low high (map range_of tables) ≡ Some ends →
    IfOk r (λ o. IfSome o (OpensAtMost front back (ends.1 + 1 - ends.0)))

-- ---- a reader of some tables of a run

-- from these ends it yields what it has left, up to the first error, if these calls may be made
abbrev pub ReaderYieldsLeft : {A : Type 0}
    (front back : RunRange A → Option (Result Entry Error) → RunRange A → Type 0)
    → (RunRange A → Type 0) → RunRange A → Type 0
ReaderYieldsLeft front back can reader = YieldsEnding front back can can reader (run_left reader)

-- a call returned such a reader, or none
abbrev pub ReaderYields : {A : Type 0}
    (front back : RunRange A → Option (Result Entry Error) → RunRange A → Type 0)
    → (RunRange A → Type 0) → Result (Option (RunRange A)) Error → Type 0
ReaderYields front back can r = IfOk r (λ o. IfSome o (ReaderYieldsLeft front back can))

-- it yields the entries of the span's lists: the first and the last cut at the bounds
abbrev pub SpanYieldsList : {S : Type 0}
    (front back : S → Option (Result Entry Error) → S → Type 0) → List OpenTable
    → Option ℕ × Option ℕ → Bound (List ℕ) → Bound (List ℕ) → Result S Error → Type 0
SpanYieldsList front back tables span low high r =
    let ends = ends_given tables span in
    (lists : List (List Entry)) → HoldLists tables lists →
    IfOk r (YieldsList front back (span_list (span_of ends low high) lists))

-- it opens at most as many tables as the span has
abbrev pub SpanOpensFew : {A : Type 0}
    (front back : RunRange A → Option (Result Entry Error) → RunRange A → Type 0)
    → List OpenTable → Option ℕ × Option ℕ → Result (RunRange A) Error → Type 0
SpanOpensFew front back tables span r =
    let ends = ends_given tables span in IfOk r (OpensAtMost front back (ends.1 + 1 - ends.0))

-- ---- a scanner of some tables of a run

-- the results of their scans, up to the first error
abbrev pub span_scan : List OpenTable → Option ℕ × Option ℕ → List (Result Entry Error)
span_scan tables span = tables_scan (tables_between tables (ends_given tables span))

-- it yields these results
abbrev pub SpanScans : {S : Type 0} (front : S → Option (Result Entry Error) → S → Type 0)
    → List OpenTable → Option ℕ × Option ℕ → Result S Error → Type 0
SpanScans front tables span r = IfOk r (λ s.
    YieldsEnding front nowhere (λ _. Unit {0}) (λ _. Unit {0}) s (span_scan tables span))

-- it yields the lists that the tables hold, if each has an entry
abbrev pub SpanScansList : {S : Type 0} (front : S → Option (Result Entry Error) → S → Type 0)
    → List OpenTable → Option ℕ × Option ℕ → Result S Error → Type 0
SpanScansList front tables span r =
    let some = tables_between tables (ends_given tables span) in
    (lists : List (List Entry)) → AllByRecursion (λ es. 0 < length es) lists →
    HoldLists some lists → IfOk r (YieldsList front nowhere (joined lists))

-- ---- readers of several runs

-- from these ends they yield together the entries within the bounds of the lists of each run
abbrev pub ReadersYield : {S A Z : Type 0}
    (front back : S → Option (Result Entry Error) → S → Type 0) → Bound (List ℕ)
    → Bound (List ℕ) → List (Arc (List OpenTable) Z) → Result (Vec S A) Error → Type 0
ReadersYield front back low high runs r = OnLists runs (λ lists.
    let found = map (λ ls. within low high (joined ls)) lists in
    IfOk r (λ v. YieldTogether front back v.items found))

-- ---- a stream of several runs

-- from these ends it yields the newest versions of the entries within the bounds of all lists that
-- the runs hold
abbrev pub RunsYieldNewest : {S Z : Type 0}
    (front back : S → Option (Result Entry Error) → S → Type 0) → Bound (List ℕ)
    → Bound (List ℕ) → List (Arc (List OpenTable) Z) → Result S Error → Type 0
RunsYieldNewest front back low high runs r = OnLists runs (λ lists.
    IfOk r (YieldsList front back (newest (within low high (union_in lists)))))

-- it yields the newest versions below a seqno
abbrev pub RunsYieldNewestBelow : {S Z : Type 0}
    (front back : S → Option (Result Entry Error) → S → Type 0) → ℕ → Bound (List ℕ)
    → Bound (List ℕ) → List (Arc (List OpenTable) Z) → Result S Error → Type 0
RunsYieldNewestBelow front back bound low high runs r = OnLists runs (λ lists.
    let found = newest (numbered_below bound (within low high (union_in lists))) in
    IfOk r (YieldsList front back found))

-- if every seqno is below this one, it yields the newest versions of all
abbrev pub RunsYieldAllBelow : {S Z : Type 0}
    (front back : S → Option (Result Entry Error) → S → Type 0) → ℕ → Bound (List ℕ)
    → Bound (List ℕ) → List (Arc (List OpenTable) Z) → Result S Error → Type 0
RunsYieldAllBelow front back bound low high runs r = OnLists runs (λ lists.
    All (λ (e : Entry). e.seqno < bound) (union_in lists) →
    IfOk r (YieldsList front back (newest (within low high (union_in lists)))))

-- ---- further sources

-- this holds if each of these sources may be called at both ends and is finite
abbrev pub IfEachEnds : {S : Type 0} (front back : S → Option (Result Entry Error) → S → Type 0)
    (can can_back : S → Type 0) → (S → Count) → List S → Type 0 → Type 0
IfEachEnds front back can can_back left sources P =
    All (CanYield front back can can_back) sources → All (λ s. IsFinite (left s)) sources → P

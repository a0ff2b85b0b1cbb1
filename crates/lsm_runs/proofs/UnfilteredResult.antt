-- The result of a compaction whose filter keeps each entry and whose observer never stops it, from
-- the clauses for any filter and observer.
use Rattle.std.proofs.Common.{◌≡◌, refl, inl, inr, subst, ℕ, false, true, List, ◌⊎◌}
use Rattle.std.specs.Prelude.{◌≢◌, Bool, IfErr, IsErrAnd, MatchResult, None, Ok, Err, Result, Some}
use Rattle.std.specs.List.{AllByRecursion}
use Rattle.sst_blocks.specs.Asked.{result_map}
use Rattle.sst_entries.specs.Entry.{Entry}
use Rattle.sst_entries.specs.Error.{Faults, is_memory}
use Rattle.sst_entries.specs.Stream.{ok_results}
use Rattle.sst_entries.specs.declared.error.Error.{Error}
use Rattle.sst_entries.specs.declared.error.Error.TheVariants.{OutOfMemory}
use Rattle.lsm_sorted.specs.merge.Ends.{R}
use Rattle.lsm_sorted.specs.merge.InPlace.{merge_of}
use Rattle.lsm_sorted.specs.merge.Union.{Ascends, entries_among}
use Rattle.lsm_sorted.specs.declared.compaction.Rules.{Rules}
use Rattle.lsm_sorted.specs.Compaction.{Verdict}
use Rattle.lsm_writers.specs.Tables.{TablesWriting}
use Rattle.lsm_readers.specs.point.Table.{OpenTable}
use Rattle.lsm_runs.specs.RunLists.{RunsHoldLists}
use Rattle.lsm_runs.specs.SeveralRuns.{union_in}
use Rattle.lsm_runs.specs.compaction.AnyRuns.{AreTablesBy, BeginsWith, CameOf, HasMade, RefusesOf}
use Rattle.lsm_runs.specs.compaction.AnyRuns.{first_blocks_fault, scans_of}
use Rattle.lsm_runs.specs.compaction.Chain.{writes_fault}
use Rattle.lsm_runs.specs.compaction.Compacted.{AreCompactable, HaveEntries, kept_in}
use Rattle.lsm_runs.specs.compaction.Filtered.{CameUntil, CameUpTo, FitsThroughout}
use Rattle.lsm_runs.specs.compaction.Filtered.{RefusesForMemory}
use Rattle.lsm_runs.specs.compaction.Observed.{WasNotified}
use Rattle.lsm_runs.specs.compaction.OpenedBy.{FailsToOpen}
use Rattle.lsm_runs.specs.compaction.Unfiltered.{IsUnfiltered, KeepsEach, NeverStops}
use Rattle.lsm_runs.specs.compaction.Written.{opens_fault}
use Rattle.lsm_runs.specs.declared.compaction.any_runs.CompactionOutcome.{CompactionOutcome}
use Rattle.lsm_runs.specs.declared.compaction.any_runs.CompactionOutcome.TheVariants.{OutOfOrder}
use Rattle.lsm_runs.specs.declared.compaction.any_runs.CompactionOutcome.TheVariants.{Stopped}
use Rattle.lsm_runs.specs.declared.compaction.any_runs.CompactionOutcome.TheVariants.{Tables}
use Rattle.lsm_runs.specs.declared.compaction.observer.CompactionProgress.{CompactionProgress}
use Rattle.lsm_runs.proofs.OneList.{one_way}
use Rattle.lsm_runs.proofs.AnyWritten.{faults_of, in_order_of, in_order_whole, refused_of}
use Rattle.lsm_runs.proofs.Keeping.{stays_writable}
use Rattle.lsm_runs.proofs.Unfiltered.{begun_kept, came_kept, fits_kept, list_came, list_refused}
use Rattle.lsm_runs.proofs.Unfiltered.{never_fails, through_kept}

abbrev Lists : Type 0
Lists = List (List (List Entry))

abbrev InOrder : List (List OpenTable) → Type 0
InOrder runs = AllByRecursion (λ (rs : List R). Ascends (entries_among rs)) (scans_of runs)

module _ {F C O A : Type 0} (gives : F → Entry → Result Verdict Error → F → Type 0)
    (gets : C → Entry → C → Type 0) (says : O → CompactionProgress → Bool → O → Type 0)
    (keeps : KeepsEach gives) (never : NeverStops says) (rules : Rules) (f : F) (c : C)
    (w : TablesWriting) (runs : List (List OpenTable)) (o q : O) where
  -- an error that is passed on
  pub plain_err : (r : Result (CompactionOutcome A × C) Error) (e : Error)
      → IsErrAnd r (λ y. y ≡ e)
      → ((lists : Lists) → RunsHoldLists runs lists → AllByRecursion HaveEntries lists
      → IfErr r (λ x. CameUntil gives gets rules f c (ok_results (union_in lists)) w says o x q))
      → (AreCompactable runs → (lists : Lists) → RunsHoldLists runs lists → RefusesForMemory gives
      → FitsThroughout gives gets rules f c (union_in lists) w → IfErr r (λ x. x ≡ OutOfMemory))
      → (InOrder runs → MatchResult r
      (λ x. CameUpTo gives gets rules f c (merge_of (scans_of runs)) w says o x.0 x.1 q)
      (λ x. CameUntil gives gets rules f c (merge_of (scans_of runs)) w says o x q
      ⊎ BeginsWith runs x))
      → (first_blocks_fault runs ≢ None → Faults r (first_blocks_fault runs) × (q ≡ o))
      → IsUnfiltered {A = A} runs rules w
      (result_map (λ (x : CompactionOutcome A × C). x.0) r)
  plain_err (Ok x) e is until fits any opens = absurd is
  plain_err (Err y) e is until fits any opens =
      let came : Result (CompactionOutcome A) Error = Err y in
      record {
        tables = λ able lists held. tt;
        refused = λ able lists held. subst
            (λ (ls : Lists). Faults came (writes_fault w (kept_in rules ls)))
            (one_way runs able.lists lists able.hold held)
            (faults_of came w (kept_in rules able.lists)
            (stays_writable rules (union_in able.lists) able.writable)
            (list_refused gives keeps gets rules f c says never o q (union_in able.lists) w came y
            refl (until able.lists able.hold able.some)));
        taken = λ able lists held small. fits able lists held (never_fails gives keeps)
            (fits_kept gives keeps gets rules f c (union_in lists) w small);
        merged = λ lists held some. tt;
        faulted = λ lists held some. refused_of w (ok_results (kept_in rules lists)) came
            (list_refused gives keeps gets rules f c says never o q (union_in lists) w came y refl
            (until lists held some));
        any = λ ascend. begun_kept gives keeps gets rules f c says never o q
            (merge_of (scans_of runs)) w runs came y refl (any ascend);
        opens = λ some. (opens some).0;
        made = tt;
        through = tt;
      }

  -- an outcome
  pub plain_ok : (out : CompactionOutcome A) (d : C)
      → ((lists : Lists) → RunsHoldLists runs lists → AllByRecursion HaveEntries lists
      → CameUpTo gives gets rules f c (ok_results (union_in lists)) w says o out d q)
      → (InOrder runs → CameUpTo gives gets rules f c (merge_of (scans_of runs)) w says o out d q)
      → first_blocks_fault runs ≡ None → HasMade w out → WasNotified says w out o q
      → IsUnfiltered {A = A} runs rules w (Ok out)
  plain_ok out d merged any opens made returned =
      let came : (lists : Lists) → RunsHoldLists runs lists → AllByRecursion HaveEntries lists
      → CameOf w (ok_results (kept_in rules lists)) (Ok out) =
      λ lists held some. list_came gives keeps gets rules f c says never o q (union_in lists) w out
      d (merged lists held some) in
      record {
        tables = λ able lists held. subst
            (λ (ls : Lists). AreTablesBy w (kept_in rules ls) out)
            (one_way runs able.lists lists able.hold held)
            (in_order_whole (Ok out) w (kept_in rules able.lists)
            (stays_writable rules (union_in able.lists) able.writable)
            (in_order_of (Ok out) w (kept_in rules able.lists)
            (came able.lists able.hold able.some)));
        refused = λ able lists held. subst
            (λ (ls : Lists). writes_fault w (kept_in rules ls) ≡ None)
            (one_way runs able.lists lists able.hold held)
            (faults_of (Ok out) w (kept_in rules able.lists)
            (stays_writable rules (union_in able.lists) able.writable)
            (came able.lists able.hold able.some));
        taken = λ able lists held small. tt;
        merged = λ lists held some. in_order_of (Ok out) w (kept_in rules lists)
            (came lists held some);
        faulted = λ lists held some. tt;
        any = λ ascend. inl (came_kept gives keeps gets rules f c says never o q
            (merge_of (scans_of runs)) w out d (any ascend));
        opens = λ some. opens;
        made = made;
        through = through_kept says never w o q out returned;
      }

-- ---- tables that are opened after such a compaction

-- an outcome is not an error
pub came_alone : {A : Type 0} (w : TablesWriting) (rs : List R) (out : CompactionOutcome A)
    (P : Error → Type 0) → CameOf w rs (Ok out) ⊎ IsErrAnd (Ok out) P → CameOf w rs (Ok out)
came_alone w rs out P h = elim h [ inl came ↦ came | inr fails ↦ absurd fails ]

-- the error of writing, of opening the runs, or of opening the new tables
pub refused_three : (w : TablesWriting) (rs : List R) (g : ℕ) (P : Error → Type 0) (e : Error)
    → (is_memory e ≡ false → RefusesOf w rs e) ⊎ P e → is_memory e ≡ false
    → RefusesOf w rs e ⊎ (P e ⊎ FailsToOpen w rs g e)
refused_three w rs g P e h fine = elim h [
  | inl came ↦ inl (came fine)
  | inr begins ↦ inr (inl begins)
]

-- the error of opening the new tables
pub open_fails : {A : Type 0} (w : TablesWriting) (rs : List R) (g : ℕ)
    (out : CompactionOutcome A) (e : Error) → CameOf w rs (Ok out) → (out ≡ OutOfOrder → false ≡ true)
    → ((es : List Entry) → AreTablesBy w es out → is_memory e ≡ false
    → opens_fault w.present.options es g ≡ Some e) → is_memory e ≡ false → FailsToOpen w rs g e
open_fails w rs g (Tables tables left) e came order opens fine = record {
  list = came.list;
  whole = came.whole;
  none = came.none;
  fault = opens came.list came.written fine;
}
open_fails w rs g OutOfOrder e came order opens fine =
    let fails : false ≡ true = order refl in absurd cc
open_fails w rs g Stopped e came order opens fine = absurd came

-- The result of a compaction whose filter keeps each entry and whose observer never stops it.
use Rattle.std.specs.Prelude.{◌≡◌, ◌≢◌, ◌⊎◌, Bool, true, false, List, None, Result, Ok, IfErr, IfOk}
use Rattle.std.specs.List.{AllByRecursion}
use Rattle.std.specs.Result.{IsErrAnd}
use Rattle.sst_entries.specs.Entry.{Entry}
use Rattle.sst_entries.specs.Error.{Faults, is_memory}
use Rattle.sst_entries.specs.Stream.{ok_results}
use Rattle.sst_entries.specs.declared.error.Error.{Error}
use Rattle.sst_entries.specs.declared.error.Error.TheVariants.{OutOfMemory}
use Rattle.lsm_sorted.specs.merge.InPlace.{merge_of}
use Rattle.lsm_sorted.specs.declared.compaction.Rules.{Rules}
use Rattle.lsm_sorted.specs.Compaction.{Verdict, keep}
use Rattle.lsm_sorted.specs.lending.LentCompaction.{lent_outs}
use Rattle.lsm_writers.specs.Tables.{TablesWriting}
use Rattle.lsm_readers.specs.point.Table.{OpenTable}
use Rattle.lsm_runs.specs.LentNewestRuns.{EachAscends}
use Rattle.lsm_runs.specs.RunLists.{RunsHoldLists}
use Rattle.lsm_runs.specs.compaction.AnyRuns.{AreTablesBy, BeginsWith, CameInOrder, CameOf}
use Rattle.lsm_runs.specs.compaction.AnyRuns.{GoesThrough, HasMade, RefusesOf}
use Rattle.lsm_runs.specs.compaction.AnyRuns.{first_blocks_fault, scans_of}
use Rattle.lsm_runs.specs.compaction.Chain.{writes_fault}
use Rattle.lsm_runs.specs.compaction.Compacted.{AreCompactable, FitsBy, HaveEntries, kept_in}
use Rattle.lsm_runs.specs.declared.compaction.any_runs.CompactionOutcome.{CompactionOutcome}
use Rattle.lsm_runs.specs.declared.compaction.observer.CompactionProgress.{CompactionProgress}

-- a filter that keeps each entry
abbrev pub KeepsEach : {F : Type 0} → (F → Entry → Result Verdict Error → F → Type 0) → Type 0
KeepsEach {F} gives =
    (f g : F) (x : Entry) (v : Result Verdict Error) → gives f x v g → v ≡ Ok keep

-- an observer that never stops a compaction
abbrev pub NeverStops : {O : Type 0} → (O → CompactionProgress → Bool → O → Type 0) → Type 0
NeverStops {O} says =
    (o q : O) (progress : CompactionProgress) (goes : Bool) → says o progress goes q → goes ≡ true

-- the result of compacting these runs with a writer, if the filter keeps each entry and the observer
-- never stops it
pub record IsUnfiltered {A : Type 0} (runs : List (List OpenTable)) (rules : Rules)
    (w : TablesWriting) (came : Result (CompactionOutcome A) Error) : Type 0 where
  -- compactable runs yield the tables of the entries kept. Except for `OutOfMemory`, an error is the
  -- writer's first one, and there is none if the tables fit
  pub tables : AreCompactable runs → (lists : List (List (List Entry))) → RunsHoldLists runs lists →
      IfOk came (AreTablesBy w (kept_in rules lists))
  pub refused : AreCompactable runs → (lists : List (List (List Entry))) →
      RunsHoldLists runs lists → Faults came (writes_fault w (kept_in rules lists))
  pub taken : AreCompactable runs → (lists : List (List (List Entry))) → RunsHoldLists runs lists →
      FitsBy w (kept_in rules lists) → IfErr came (λ e. e ≡ OutOfMemory)
  -- for tables of lists with entries, it yields the tables of the entries kept, or ends out of order
  -- at the first that may not follow. Else it fails with the first fault of writing these entries
  pub merged : (lists : List (List (List Entry))) → RunsHoldLists runs lists →
      AllByRecursion HaveEntries lists → IfOk came (CameInOrder w (kept_in rules lists))
  pub faulted : (lists : List (List (List Entry))) → RunsHoldLists runs lists →
      AllByRecursion HaveEntries lists → IfErr came (λ e. is_memory e ≡ false →
      RefusesOf w (ok_results (kept_in rules lists)) e)
  -- if the tables' scans are in order, it writes the entries kept of their merge, up to the first
  -- fault. Or it fails with the error of the first run whose first data block cannot be loaded
  pub any : EachAscends (scans_of runs) →
      CameOf w (lent_outs rules (merge_of (scans_of runs))) came
      ⊎ IsErrAnd came (BeginsWith runs)
  -- for any tables, if the first data block of a run cannot be loaded, it fails with the error of the
  -- first such run, except for `OutOfMemory`
  pub opens : first_blocks_fault runs ≢ None → Faults came (first_blocks_fault runs)
  -- for any tables, the new tables are those of a list that can be written, and no observer stopped
  -- it
  pub made : IfOk came (HasMade w)
  pub through : IfOk came GoesThrough

-- A compaction that yields its tables one by one, as a handle holds it.
use Rattle.std.specs.Prelude.{◌≡◌, ℕ, Bool, true, List, [], Option, None, Some, Result, Ok, Err}
use Rattle.std.specs.Global.{Global}
use Rattle.std.specs.List.{AllByRecursion}
use Rattle.sst_entries.specs.Entry.{Entry}
use Rattle.sst_entries.specs.Error.{number_of}
use Rattle.sst_entries.specs.Stream.{ok_results}
use Rattle.sst_entries.specs.declared.error.Error.{Error}
use Rattle.sst_entries.specs.declared.error.Error.TheVariants.{OutOfMemory}
use Rattle.lsm_sorted.specs.merge.Ends.{R}
use Rattle.lsm_sorted.specs.merge.InPlace.{merge_of}
use Rattle.lsm_sorted.specs.merge.Union.{Ascends, entries_among}
use Rattle.lsm_sorted.specs.lending.LentCompaction.{lent_outs}
use Rattle.lsm_sorted.specs.declared.compaction.Rules.{Rules}
use Rattle.lsm_sorted.specs.declared.compaction.lending.LendingCompaction.{LendingCompaction}
use Rattle.lsm_sorted.specs.declared.compaction.stream.NoCallback.{NoCallback}
use Rattle.lsm_sorted.specs.declared.compaction.stream.NoFilter.{NoFilter}
use Rattle.lsm_sorted.specs.declared.lending_merger.LendingMerger.{LendingMerger}
use Rattle.lsm_writers.specs.Streamed.{IsAfter}
use Rattle.lsm_writers.specs.Tables.{TablesWriting}
use Rattle.lsm_writers.specs.declared.table_stream.TableStream.{TableStream}
use Rattle.lsm_writers.specs.declared.table_stream.TableStreamError.{TableStreamError}
use Rattle.lsm_writers.specs.declared.table_stream.TableStreamError.TheVariants.{Failed, OutOfOrder}
use Rattle.lsm_writers.specs.declared.writer.FinishedTable.{FinishedTable}
use Rattle.lsm_readers.specs.point.Table.{OpenTable}
use Rattle.lsm_runs.specs.RunScan.{RunScan}
use Rattle.lsm_runs.specs.compaction.Words.{AreMergeable, kept_in, scans_of}

-- the entries that a compaction of runs keeps, between two calls
abbrev pub KeptEntries : Type 0
KeptEntries = LendingCompaction (LendingMerger RunScan Global) NoFilter NoCallback Global

-- a compaction of runs between two tables
abbrev pub Compacting : Type 0
Compacting = TableStream KeptEntries Global

-- a compaction of runs with a writer that has yielded no table
pub record StartsCompaction
    (advances : KeptEntries → Option (Result Entry Error) → KeptEntries → Type 0)
    (runs : List (List OpenTable)) (rules : Rules) (w : TablesWriting) (s : Compacting) : Type 0
  where
    -- for tables of lists with entries, it is before the first table of the entries kept
    pub lists : (able : AreMergeable runs) (stops : Error → Bool) → stops OutOfMemory ≡ true →
        IsAfter stops advances w (ok_results (kept_in rules able.lists)) [] s
    -- if the tables' scans are in order, it is before the first table of what is kept of their
    -- merge, each error in its position
    pub any : AllByRecursion (λ (rs : List R). Ascends (entries_among rs)) (scans_of runs) →
        (stops : Error → Bool) → stops OutOfMemory ≡ true →
        IsAfter stops advances w (lent_outs rules (merge_of (scans_of runs))) [] s
    -- its id counter is that of the writer
    pub ids : s.ids ≡ w.ids

-- a finished table and the id counter after it, or the code of an error or of the end
abbrev pub Taken : Type 0
Taken = Result (FinishedTable Global × Option ℕ) ℕ

-- the next item of a compaction as this
abbrev pub item_taken : Option (Result (FinishedTable Global) TableStreamError) → Option ℕ → Taken
item_taken None ids = Err 106
item_taken (Some (Ok f)) ids = Ok (f, ids)
item_taken (Some (Err OutOfOrder)) ids = Err 104
item_taken (Some (Err (Failed e))) ids = Err (number_of e)

-- one call of the compaction takes it from s to t, and yields an item, which is taken with the id
-- counter after it
abbrev pub TakesNext : (Compacting → Option (Result (FinishedTable Global) TableStreamError) → Compacting
    → Type 0) → Compacting → Taken → Compacting → Type 0
TakesNext gives s taken t = (item : Option (Result (FinishedTable Global) TableStreamError)) × gives s item t
    × (taken ≡ item_taken item t.ids)

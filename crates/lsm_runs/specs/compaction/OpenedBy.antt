-- Finished tables that are opened with given options; the finished tables are not changed.
use Rattle.std.specs.Prelude.{◌≡◌, ◌≢◌, ◌⊎◌, ◌+◌, ◌^◌, ◌<◌, ℕ, true, false, List, [], Option, None}
use Rattle.std.specs.Prelude.{Some, MatchOption, Result, Ok}
use Rattle.std.specs.List.{AllZip}
use Rattle.std.specs.Option.{option_or}
use Rattle.sst_entries.specs.declared.error.Error.{Error}
use Rattle.sst_entries.specs.Entry.{Entry}
use Rattle.sst_entries.specs.Error.{is_memory}
use Rattle.sst_entries.specs.Stream.{ok_results}
use Rattle.sst_blocks.specs.declared.table.label.Label.{Label}
use Rattle.sst_blocks.specs.declared.table.options.Options.{Options}
use Rattle.sst_blocks.specs.table.Facts.{highest_seqno}
use Rattle.sst_blocks.specs.table.Table.{IsTable}
use Rattle.lsm_sorted.specs.merge.Ends.{R}
use Rattle.lsm_writers.specs.declared.writer.FinishedTable.{FinishedTable}
use Rattle.lsm_writers.specs.Tables.{TablesWriting}
use Rattle.lsm_writers.specs.Writing.{IsTableWith}
use Rattle.lsm_readers.specs.OfList.{list_result}
use Rattle.lsm_readers.specs.point.Parts.{Parts, recovered_result}
use Rattle.lsm_readers.specs.point.Table.{IsOpen, OpenTable}
use Rattle.lsm_runs.specs.compaction.AnyRuns.{BeginsWith, RefusesOf}
use Rattle.lsm_runs.specs.compaction.Chain.{writes_fault}
use Rattle.lsm_runs.specs.compaction.Compacted.{FitsBy}
use Rattle.lsm_runs.specs.compaction.Written.{opens_fault}
use Rattle.lsm_runs.specs.declared.compaction.any_runs.CompactionOutcome.{CompactionOutcome}
use Rattle.lsm_runs.specs.declared.compaction.any_runs.CompactionOutcome.TheVariants.{OutOfOrder}
use Rattle.lsm_runs.specs.declared.compaction.any_runs.CompactionOutcome.TheVariants.{Stopped}
use Rattle.lsm_runs.specs.declared.compaction.any_runs.CompactionOutcome.TheVariants.{Tables}
use Rattle.lsm_runs.specs.declared.compaction.open_options.OpenOptions.{OpenOptions}

-- no global seqno, tree 0, and what can be pinned is
abbrev pub default_opening : OpenOptions
default_opening =
    record { global_seqno = 0; tree_id = 0; pin_filter = true; pin_index = true }

-- the result of opening the table of a list with these options
abbrev pub list_opened : {bytes : List ℕ} {es : List Entry} → IsTable bytes es → OpenOptions
    → Result Parts Error
list_opened t how = list_result t how.global_seqno how.pin_filter how.pin_index

-- this holds of any list of which this is the finished table, and of its options
abbrev pub OnTable : {A : Type 0} → FinishedTable A → (Options → List Entry → Type 0) → Type 0
OnTable f P =
    (label : Label) (options : Options) (es : List Entry) →
    IsTableWith label options es f.id f.checksum.0 f.bytes → P options es

-- a finished table that was opened with these options
pub record IsOpenedBy {A : Type 0} (how : OpenOptions) (f : FinishedTable A) (t : OpenTable)
    : Type 0 where
  pub bytes_are : t.bytes ≡ f.bytes
  pub checksum_is : t.checksum ≡ f.checksum.0
  pub number_is : t.global_seqno ≡ how.global_seqno
  pub tree_is : t.tree_id ≡ how.tree_id
  pub returned : recovered_result t.bytes how.global_seqno how.pin_filter how.pin_index ≡ Ok t.parts
  pub opened : IsOpen t

-- the same of several tables, in their order
abbrev pub AreOpenedBy : {A : Type 0} → OpenOptions → List (FinishedTable A) → List OpenTable
    → Type 0
AreOpenedBy how fs ts = AllZip (IsOpenedBy how) fs ts

-- a run of them; none if there is no table
abbrev pub IsRunBy : {A : Type 0} → OpenOptions → List (FinishedTable A) → Option (List OpenTable)
    → Type 0
IsRunBy how fs r = MatchOption r (fs ≡ []) (λ run. (fs ≢ []) × AreOpenedBy how fs run)

-- the same of a compaction's outcome: none if it has no tables
abbrev pub HasRunBy : {A : Type 0} → OpenOptions → CompactionOutcome A → Option (List OpenTable)
    → Type 0
HasRunBy how (Tables tables left) r = IsRunBy how tables.items r
HasRunBy how OutOfOrder r = r ≡ None
HasRunBy how Stopped r = r ≡ None

-- the error of writing a list, or else of opening its tables: an index restart interval other than
-- 1, or a seqno too large with the global one applied
abbrev pub run_with_fault : TablesWriting → List Entry → ℕ → Option Error
run_with_fault w es g = option_or (writes_fault w es) (opens_fault w.present.options es g)

-- this holds if the tables of a list fit and can be opened
abbrev pub IfOpens : TablesWriting → List Entry → ℕ → Type 0 → Type 0
IfOpens w es g P =
    w.present.options.index_block_restart_interval ≡ 1 → FitsBy w es →
    highest_seqno es + g < 2 ^ 64 → P

-- the results are those of a list whose tables are written, and opening these fails with this error
pub record FailsToOpen (w : TablesWriting) (rs : List R) (g : ℕ) (e : Error) : Type 0 where
  pub list : List Entry
  pub whole : rs ≡ ok_results list
  pub none : writes_fault w list ≡ None
  pub fault : opens_fault w.present.options list g ≡ Some e

-- except for `OutOfMemory`, this is an error of writing the results, or of opening their tables, or
-- that of the first run whose first data block cannot be loaded
abbrev pub RefusesRun : TablesWriting → List R → ℕ → List (List OpenTable) → Error → Type 0
RefusesRun w rs g runs e =
    is_memory e ≡ false → RefusesOf w rs e ⊎ (BeginsWith runs e ⊎ FailsToOpen w rs g e)

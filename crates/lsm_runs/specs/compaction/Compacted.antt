-- A compaction of several runs: the entries that are kept, and the tables that a writer makes of
-- them.
use Rattle.std.specs.Prelude.{◌≡◌, ℕ, Bool, zero, suc, ◌+◌, ◌-◌, ◌^◌, ◌<◌, ◌≤◌, ◌==◌, List}
use Rattle.std.specs.Prelude.{length, Option, Result, if◌then◌else◌}
use Rattle.std.specs.List.{AllByRecursion}
use Rattle.std.specs.declared.sync.Arc.{Arc}
use Rattle.sst_entries.specs.declared.error.Error.{Error}
use Rattle.sst_entries.specs.Entry.{Entry}
use Rattle.sst_entries.specs.Stream.{nowhere, ok_results}
use Rattle.sst_entries.specs.Strict.{IsStrict}
use Rattle.sst_blocks.specs.declared.table.label.Label.{Label}
use Rattle.lsm_sorted.specs.declared.compaction.Rules.{Rules}
use Rattle.lsm_sorted.specs.Compaction.{kept, unfiltered}
use Rattle.lsm_writers.specs.declared.writer.FinishedTable.{FinishedTable}
use Rattle.lsm_writers.specs.Streamed.{AreAll}
use Rattle.lsm_writers.specs.Tables.{AreFinished, AreInKeyOrder, AreTables, IsFreshRun, TableFits}
use Rattle.lsm_writers.specs.Tables.{TablesWriting, drawn, first_id, next_id}
use Rattle.lsm_writers.specs.Writing.{IsWritable}
use Rattle.lsm_readers.specs.point.Table.{OpenTable}
use Rattle.lsm_runs.specs.RunLists.{HoldLists, OnLists, RunsHold, RunsHoldLists, TableLists}
use Rattle.lsm_runs.specs.RunLists.{YieldsList, each_run}
use Rattle.lsm_runs.specs.SeveralRuns.{union_in}

-- ---- what is compacted

-- a run's lists: at least one, and each has an entry
abbrev pub HaveEntries : List (List Entry) → Type 0
HaveEntries ls = (0 < length ls) × AllByRecursion (λ (es : List Entry). 0 < length es) ls

-- this holds of any lists with entries that the runs hold
abbrev pub OnFullLists : {Z : Type 0} → List (Arc (List OpenTable) Z) → (TableLists → Type 0)
    → Type 0
OnFullLists runs P =
    (lists : TableLists) → RunsHold runs lists → AllByRecursion HaveEntries lists → P lists

-- this holds of any lists with entries that the tables of a run hold
abbrev pub OnFullTables : List OpenTable → (List (List Entry) → Type 0) → Type 0
OnFullTables tables P =
    (lists : List (List Entry)) → HoldLists tables lists → HaveEntries lists → P lists

-- runs in order of tables of lists that have entries
pub record AreMergeable (runs : List (List OpenTable)) : Type 0 where
  pub lists : List (List (List Entry))
  pub hold : RunsHoldLists runs lists
  pub some : AllByRecursion HaveEntries lists

-- runs that may be merged, whose entries together can be written: no key has one seqno twice, and
-- each seqno, the global one applied, is below the largest
pub record AreCompactable (runs : List (List OpenTable)) : Type 0 where
  pub lists : List (List (List Entry))
  pub hold : RunsHoldLists runs lists
  pub some : AllByRecursion HaveEntries lists
  pub writable : IsWritable (union_in lists)

-- such runs may be merged
abbrev pub merged_as : {runs : List (List OpenTable)} → AreCompactable runs → AreMergeable runs
merged_as able = record { lists = able.lists; hold = able.hold; some = able.some }

-- this holds of the lists of runs that may be merged
abbrev pub OnMergeable : {Z : Type 0} → List (Arc (List OpenTable) Z) → (TableLists → Type 0)
    → Type 0
OnMergeable runs P = (able : AreMergeable (each_run runs)) → P able.lists

-- this holds of any lists that compactable runs hold
abbrev pub OnCompactable : {Z : Type 0} → List (Arc (List OpenTable) Z) → (TableLists → Type 0)
    → Type 0
OnCompactable runs P = AreCompactable (each_run runs) → OnLists runs P

-- the rules of a compaction
abbrev pub rules_by : ℕ → Bool → Bool → Rules
rules_by watermark evict zeroing =
    record { watermark = watermark; evict = evict; zeroing = zeroing }

-- the entries that a compaction without a filter keeps of several runs' lists
abbrev pub kept_in : Rules → List (List (List Entry)) → List Entry
kept_in rules lists = kept rules (unfiltered (union_in lists))

-- this holds of the entries that are kept of any lists that the runs hold
abbrev pub OnKept : {Z : Type 0} → List (Arc (List OpenTable) Z) → Rules → (List Entry → Type 0)
    → Type 0
OnKept runs rules P = OnLists runs (λ lists. P (kept_in rules lists))

-- a source that yields a list that can be written
pub record YieldsWritable {S : Type 0} (next : S → Option (Result Entry Error) → S → Type 0)
    (s : S) : Type 0 where
  pub list : List Entry
  pub writable : IsWritable list
  pub yields : YieldsList next nowhere list s

-- ---- a list written by a writer that has written nothing

-- the next id is the one after that of the first table
abbrev pub RunsOn : TablesWriting → Type 0
RunsOn w = w.ids ≡ next_id w.present.label.table_id

-- a counter after so many draws
abbrev pub drawn_often : ℕ → Option ℕ → Option ℕ
drawn_often zero ids = ids
drawn_often (suc n) ids = drawn (drawn_often n ids)

-- the number of tables begun after the writer's first, if so many have entries: at target 0 the
-- first one has none
abbrev pub begun_behind : ℕ → ℕ → ℕ
begun_behind target n = if target == 0 then n else n - 1

-- the table info of the first table that has entries
abbrev pub first_written : TablesWriting → Label
first_written w = record w.present.label { table_id = first_id w.target w.present.label.table_id }

-- finished tables of a list cut by the writer's target, with its options, level, timestamp and
-- consecutive ids; and the counter, drawn once for each table after the writer's first
pub record AreWrittenBy {A : Type 0} (w : TablesWriting) (es : List Entry)
    (fs : List (FinishedTable A)) (left : Option ℕ) : Type 0 where
  pub strict : IsStrict es
  pub lists : List (List Entry)
  pub cut : AreTables w.present.options.data_block_size w.target es lists
  pub order : AreInKeyOrder lists
  pub finished : AreFinished w.present.options (first_written w) lists fs
  pub left_is : left ≡ drawn_often (begun_behind w.target (length lists)) w.ids

-- all tables that a stream yields are those that the writer makes of the list
abbrev pub StreamedLaw : Type 0 → Type 0
StreamedLaw A = (w : TablesWriting) (es : List Entry) (gs : List (FinishedTable A))
    (left : Option ℕ) → IsFreshRun w → RunsOn w → AreAll w (ok_results es) gs left →
    AreWrittenBy w es gs left

-- a list whose tables fit, with enough ids left
pub record FitsBy (w : TablesWriting) (es : List Entry) : Type 0 where
  pub tables : List (List Entry)
  pub cut : AreTables w.present.options.data_block_size w.target es tables
  pub fit : AllByRecursion (TableFits w.present.options) tables
  pub left : first_id w.target w.present.label.table_id + length tables ≤ 2 ^ 64

-- Compaction of tables.
use Rattle.std.specs.Prelude.{◌≡◌, ◌+◌, ◌-◌, ◌^◌, ◌<◌, ℕ, List, [], ◌∷◌, false, map}
use Rattle.std.specs.Prelude.{Option, Some, min, sum_by}
use Rattle.std.specs.List.{AllByRecursion}
use Rattle.lsm_writers.specs.declared.writer.FinishedTable.{FinishedTable}
use Rattle.sst_entries.specs.Error.{is_memory}
use Rattle.sst_entries.specs.Stream.{ok_results}
use Rattle.sst_blocks.specs.table.Facts.{highest_seqno}
use Rattle.lsm_runs.specs.compaction.AnyRuns.{LeavesOrder, WritesSome}
use Rattle.lsm_runs.specs.compaction.Compacted.{AreCompactable, AreWrittenBy, FitsBy}
use Rattle.lsm_runs.specs.compaction.OpenedBy.{AreOpenedBy, default_opening, run_with_fault}
use Rattle.lsm_runs.specs.declared.compaction.any_runs.CompactionOutcome.{CompactionOutcome}
use Rattle.lsm_runs.specs.declared.compaction.any_runs.CompactionOutcome.TheVariants.{Tables}
use Rattle.lsm_readers.specs.point.Table.{OpenTable}
use Rattle.lsm_runs.specs.RunLists.{RunsHoldLists, TableLists}
use Rattle.lsm_runs.specs.compaction.Compacted.{HaveEntries}
use Rattle.sst_entries.specs.Entry.{Entry}
use Rattle.sst_entries.specs.declared.error.Error.{Error}
use Rattle.sst_entries.specs.declared.error.Error.TheVariants.{OutOfMemory}
use Rattle.lsm_runs.specs.compaction.Compacted.{kept_in}
use Rattle.sst_tool.specs.declared.files.error.ToolError.{ToolError}
use Rattle.sst_tool.specs.declared.files.error.ToolError.TheVariants as error
use Rattle.sst_tool.specs.declared.make.compact_options.CompactOptions.{CompactOptions}
use Rattle.sst_tool.specs.make.Written.{writer_by}

-- Each table as a run of its own.
abbrev pub each_alone : List OpenTable → List (List OpenTable)
each_alone tables = map (λ t. t ∷ []) tables

-- This holds of what the rules keep of any lists with entries that the tables store.
abbrev pub OnKeptEntries : CompactOptions → List OpenTable → (List Entry → Type 0) → Type 0
OnKeptEntries o tables P = (lists : TableLists) → RunsHoldLists (each_alone tables) lists
    → AllByRecursion HaveEntries lists → P (kept_in o.rules lists)

-- If the tables may be compacted, this holds of what the rules keep of any lists that they store.
abbrev pub IfCompactable : CompactOptions → List OpenTable → (List Entry → Type 0) → Type 0
IfCompactable o tables P = AreCompactable (each_alone tables) → (lists : TableLists)
    → RunsHoldLists (each_alone tables) lists → P (kept_in o.rules lists)

-- New tables of these: they are those of a list that can be written. If the old ones store lists,
-- it is the list of the kept entries of all together.
pub record AreCompactedOf {A : Type 0} (o : CompactOptions) (opened : List OpenTable)
    (tables : List (FinishedTable A)) : Type 0 where
  pub left : Option ℕ
  pub some : WritesSome (writer_by o.tables) tables left
  pub kept : OnKeptEntries o opened (λ es. AreWrittenBy (writer_by o.tables) es tables left)

-- The number of entries in the tables' metadata, at most 2^64 - 1.
abbrev pub counted : List OpenTable → ℕ
counted tables = min (sum_by (λ t. t.parts.facts.item_count) tables) (2 ^ 64 - 1)

-- The finished tables, once opened, have so many entries.
abbrev pub TellCount : {A : Type 0} → List (FinishedTable A) → ℕ → Type 0
TellCount tables count = (opened : List OpenTable) × AreOpenedBy default_opening tables opened
    × (count ≡ counted opened)

-- The outcome has so many entries.
abbrev pub HasCount : {A : Type 0} → CompactionOutcome A → ℕ → Type 0
HasCount (Tables tables left) count = TellCount tables.items count
HasCount _ count = Unit {0}

-- The outcome has no tables.
abbrev pub HasNoTables : {A : Type 0} → CompactionOutcome A → Type 0
HasNoTables (Tables tables left) = ⊥
HasNoTables _ = Unit {0}

-- If the error says that entries are out of order, P holds.
abbrev pub IfOutOfOrder : ToolError → Type 0 → Type 0
IfOutOfOrder (error.OutOfOrder path) P = P
IfOutOfOrder error.Repeated P = P
IfOutOfOrder error.Unordered P = P
IfOutOfOrder _ P = Unit {0}

-- If the error says that entries are out of order and the tables store lists, one of the kept
-- entries of all together may not follow.
abbrev pub TellsOrder : CompactOptions → List OpenTable → ToolError → Type 0
TellsOrder o opened e =
    OnKeptEntries o opened (λ es. IfOutOfOrder e (LeavesOrder (writer_by o.tables) (ok_results es)))

-- Except for OutOfMemory the error is this one of the library, and names no file.
abbrev pub IsRefusalWith : Option Error → ToolError → Type 0
IsRefusalWith returned (error.Refused f) = is_memory f ≡ false → returned ≡ Some f
IsRefusalWith returned (error.Unplaced f) = returned ≡ Some f
IsRefusalWith returned e = ⊥

-- Except for OutOfMemory the error is the first of writing the list and opening its tables. If they
-- fit, with an id for each, it is OutOfMemory.
pub record IsRefusedFor (o : CompactOptions) (es : List Entry) (e : ToolError) : Type 0 where
  pub returned : IsRefusalWith (run_with_fault (writer_by o.tables) es 0) e
  pub taken : FitsBy (writer_by o.tables) es → highest_seqno es + 0 < 2 ^ 64
      → e ≡ error.Refused OutOfMemory

-- If the tables may be compacted, the error is that of writing the kept entries.
abbrev pub TellsLibrary : CompactOptions → List OpenTable → ToolError → Type 0
TellsLibrary o opened e = IfCompactable o opened (λ es. IsRefusedFor o es e)

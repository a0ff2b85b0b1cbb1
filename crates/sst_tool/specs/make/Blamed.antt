-- The file that an error comes from.
use denote.Ref.{Bor}
use Rattle.std.specs.Prelude.{◌≡◌, ◌⊎◌, ℕ, List, Some, false, take}
use Rattle.std.specs.List.{AllByRecursion, slice_get}
use Rattle.sst_entries.specs.Error.{is_memory}
use Rattle.sst_entries.specs.Stream.{first}
use Rattle.sst_entries.specs.declared.error.Error.{Error}
use Rattle.lsm_sorted.specs.merge.Union.{errors_among}
use Rattle.lsm_runs.specs.RunScan.{table_scan}
use Rattle.sst_tool.specs.files.Files.{is_memory_fault}
use Rattle.sst_tool.specs.declared.files.error.ToolError.{ToolError}
use Rattle.sst_tool.specs.declared.files.error.ToolError.TheVariants as error
use Rattle.sst_tool.specs.make.Scanned.{AreSoUpTo, ReadsWhole, StoresNoEntries, path_or_mark}
use Rattle.lsm_readers.specs.point.Table.{OpenTable}

-- OutOfMemory names no file, and no file is left unknown for it.
abbrev pub BlamesNoneForMemory : ToolError → Type 0
BlamesNoneForMemory (error.File e) = is_memory_fault e.fault ≡ false
BlamesNoneForMemory (error.Unreadable name at e) = is_memory e ≡ false
BlamesNoneForMemory (error.Unplaced e) = is_memory e ≡ false
BlamesNoneForMemory e = Unit {0}

-- This is the first error of scanning the table, and is not OutOfMemory.
abbrev pub MeetsFirst : OpenTable → Error → Type 0
MeetsFirst t e = (is_memory e ≡ false) × (first (errors_among (table_scan t)) ≡ Some e)

-- The error names the file at this path, with the first error of scanning its table.
abbrev pub NamesBlame : List ℕ → OpenTable → ToolError → Type 0
NamesBlame path t (error.Unreadable name at e) =
    (name.now ≡ path) × MeetsFirst t e
NamesBlame path t e = ⊥

-- The error names no file for its bytes or its keys.
abbrev pub BlamesNone : ToolError → Type 0
BlamesNone (error.File e) = ⊥
BlamesNone (error.Unreadable name at e) = ⊥
BlamesNone (error.Range name) = ⊥
BlamesNone e = Unit {0}

-- The error names no file; or it names the first file whose table cannot be read to its end, which
-- stores no list with an entry.
abbrev pub IsBlame : List (Bor (List ℕ)) → List OpenTable → ToolError → Type 0
IsBlame paths tables e = BlamesNone e ⊎ ((place : ℕ) × (t : OpenTable)
    × (slice_get tables place ≡ Some t) × NamesBlame (path_or_mark (slice_get paths place)) t e
    × StoresNoEntries t × AllByRecursion ReadsWhole (take place tables))

-- If an error other than OutOfMemory names no file, each table can be read to its end. If the file
-- is unknown, this holds as far as memory sufficed.
abbrev pub MissesNone : List OpenTable → ToolError → Type 0
MissesNone tables (error.Refused e) = is_memory e ≡ false → AllByRecursion ReadsWhole tables
MissesNone tables (error.Unplaced e) = AreSoUpTo ReadsWhole tables
MissesNone tables e = Unit {0}

-- The error is this one of the library, or names a file that cannot be read.
abbrev pub KeepsRefusal : Error → ToolError → Type 0
KeepsRefusal e (error.Refused f) = f ≡ e
KeepsRefusal e (error.Unplaced f) = f ≡ e
KeepsRefusal e (error.Unreadable name at f) = Unit {0}
KeepsRefusal e f = ⊥

-- The error says that entries are out of order or repeated.
abbrev pub TellsOnlyOrder : ToolError → Type 0
TellsOnlyOrder (error.OutOfOrder path) = Unit {0}
TellsOnlyOrder error.Repeated = Unit {0}
TellsOnlyOrder error.Unordered = Unit {0}
TellsOnlyOrder e = ⊥

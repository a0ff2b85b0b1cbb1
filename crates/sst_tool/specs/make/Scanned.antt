-- The errors and the order of whole tables.
use denote.Ref.{Bor}
use Rattle.std.specs.Prelude.{◌≡◌, ◌<◌, ℕ, Bool, true, false, List, [], Option, None, Some}
use Rattle.std.specs.Prelude.{codes, length, take}
use Rattle.std.specs.List.{AllByRecursion, slice_get}
use Rattle.sst_entries.specs.Error.{is_memory}
use Rattle.sst_entries.specs.Stream.{first, up_to_error}
use Rattle.sst_entries.specs.Strict.{is_strict_after}
use Rattle.sst_entries.specs.declared.error.Error.{Error}
use Rattle.lsm_sorted.specs.merge.Ends.{R}
use Rattle.lsm_sorted.specs.merge.Union.{entries_among, errors_among}
use Rattle.lsm_runs.specs.RunScan.{early_scan_fault, table_scan}
use Rattle.sst_tool.specs.declared.files.error.ToolError.{ToolError}
use Rattle.sst_tool.specs.declared.files.error.ToolError.TheVariants as error
use Rattle.lsm_readers.specs.Stored.{StoresList}
use Rattle.lsm_readers.specs.point.Table.{OpenTable}
use Rattle.sst_entries.specs.Entry.{Entry}

-- The path, or a question mark.
abbrev pub path_or_mark : Option (Bor (List ℕ)) → List ℕ
path_or_mark None = codes "?"
path_or_mark (Some path) = path.now

-- The bytes of the table store no list with an entry.
abbrev pub StoresNoEntries : OpenTable → Type 0
StoresNoEntries t = (es : List Entry) → StoresList t.bytes es → 0 < length es → ⊥

-- The bytes of the table store no list.
abbrev pub StoresNone : OpenTable → Type 0
StoresNone t = (es : List Entry) → StoresList t.bytes es → ⊥

-- The first error among results, or OutOfMemory.
abbrev pub IsFirstRefusal : List R → Option Error → Type 0
IsFirstRefusal rs None = errors_among rs ≡ []
IsFirstRefusal rs (Some e) = is_memory e ≡ false → first (errors_among rs) ≡ Some e

-- Each block of the table can be read.
abbrev pub ReadsWhole : OpenTable → Type 0
ReadsWhole t = errors_among (table_scan t) ≡ []

-- The tables have the property up to one, at which memory ran out: its first block has no fault
-- that is found before memory is allocated.
abbrev pub AreSoUpTo : (OpenTable → Type 0) → List OpenTable → Type 0
AreSoUpTo IsSo tables = (place : ℕ) × (t : OpenTable) × (slice_get tables place ≡ Some t)
    × (early_scan_fault t ≡ None) × AllByRecursion IsSo (take place tables)

-- Whether the results are in order, up to the first error.
abbrev pub come_in_order : List R → Bool
come_in_order rs = is_strict_after None (entries_among (up_to_error rs))

-- The entries of the table are in order, up to the first error.
abbrev pub ComesInOrder : OpenTable → Type 0
ComesInOrder t = come_in_order (table_scan t) ≡ true

-- A file that the error names as out of order is the first such one, and stores no list. If it
-- names none, all are in order, as far as memory sufficed.
abbrev pub NamesOrder : List (Bor (List ℕ)) → List OpenTable → ToolError → Type 0
NamesOrder paths tables (error.OutOfOrder path) = (place : ℕ) × (t : OpenTable)
    × (slice_get tables place ≡ Some t) × (path.now ≡ path_or_mark (slice_get paths place))
    × StoresNone t × (come_in_order (table_scan t) ≡ false)
    × AllByRecursion ComesInOrder (take place tables)
NamesOrder paths tables error.Repeated = AllByRecursion ComesInOrder tables
NamesOrder paths tables error.Unordered = AreSoUpTo ComesInOrder tables
NamesOrder paths tables e = Unit {0}

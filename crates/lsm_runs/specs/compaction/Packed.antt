-- The entries that the tables of runs hold together, in these and in other runs.
use Rattle.std.specs.Prelude.{◌≡◌, ◌<◌, Bool, true, false, List, [], ◌∷◌, filter, length}
use Rattle.sst_entries.specs.Entry.{Entry}
use Rattle.sst_entries.specs.Strict.{IsStrict}
use Rattle.lsm_sorted.specs.version.Packing.{AreInOrder, ArePlaced, SameHolders, SameTables}
use Rattle.lsm_sorted.specs.version.Packing.{tables_in}
use Rattle.lsm_readers.specs.point.Table.{OpenTable}
use Rattle.lsm_runs.specs.RunLists.{RunsHoldLists}
use Rattle.lsm_run_parts.specs.RunParts.{range_of}
use Rattle.lsm_runs.specs.SeveralRuns.{union_in}

-- runs in order whose tables hold lists; `all` is the sorted entries of these lists
pub record HoldUnion (runs : List (List OpenTable)) (all : List Entry) : Type 0 where
  pub lists : List (List (List Entry))
  pub hold : RunsHoldLists runs lists
  pub union : union_in lists ≡ all

-- the lists that the tables of runs hold are unique
abbrev pub HeldLaw : Type 0
HeldLaw =
    (runs : List (List OpenTable)) (lists others : List (List (List Entry))) →
    RunsHoldLists runs lists → RunsHoldLists runs others → lists ≡ others

-- if runs in order hold a strict list together, their tables hold it in any other runs in order
abbrev pub PackedLaw : Type 0
PackedLaw =
    (runs packed : List (List OpenTable)) (lists : List (List (List Entry))) →
    RunsHoldLists runs lists → IsStrict (union_in lists) → SameTables runs packed →
    AreInOrder range_of packed → HoldUnion packed (union_in lists)

-- if they hold any list, their tables hold it in other runs in order in which each key has its
-- tables in the same order
abbrev pub KeptLaw : Type 0
KeptLaw =
    (runs packed : List (List OpenTable)) (lists : List (List (List Entry))) →
    RunsHoldLists runs lists → SameTables runs packed → SameHolders range_of runs packed →
    AreInOrder range_of packed → HoldUnion packed (union_in lists)

-- whether a run has a table
abbrev pub has_table : List OpenTable → Bool
has_table [] = false
has_table (t ∷ ts) = true

-- runs in order, more than one of which has a table: in the packed runs, each table is in its place
abbrev pub PlacesTables : List (List OpenTable) → List (List OpenTable) → Type 0
PlacesTables runs packed =
    AreInOrder range_of runs → 1 < length (filter has_table runs) →
    ArePlaced range_of (tables_in runs) packed

-- Opened files.
use Rattle.std.specs.Prelude.{List, [], ◌∷◌, map}
use Rattle.sst_entries.specs.Entry.{Entry}
use Rattle.lsm_readers.specs.Stored.{StoresList}
use Rattle.lsm_readers.specs.point.Table.{OpenTable}
use Rattle.lsm_runs.specs.RunLists.{RunsHoldLists, TableLists}
use Rattle.sst_tool.specs.declared.show.named.NamedTable.{NamedTable}

-- The bytes of the table store a list.
abbrev pub IsSoundTable : OpenTable → Type 0
IsSoundTable t = (es : List Entry) × StoresList t.bytes es

-- This holds of any list that the table's bytes store.
abbrev pub OnStored : OpenTable → (List Entry → Type 0) → Type 0
OnStored t P = (es : List Entry) → StoresList t.bytes es → P es

-- This holds of any lists that the tables of these runs store.
abbrev pub OnListsOf : List (List OpenTable) → (TableLists → Type 0) → Type 0
OnListsOf runs P = (lists : TableLists) → RunsHoldLists runs lists → P lists

-- Each file's table as a run of its own.
abbrev pub runs_in : {A : Type 0} → List (NamedTable A) → List (List OpenTable)
runs_in fs = map (λ f. f.table ∷ []) fs

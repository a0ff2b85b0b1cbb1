-- The position of an entry in the tables of several runs.
use Rattle.std.specs.Prelude.{◌≡◌, ℕ, true, is_some, IfSome, List, Option, Result, slice_get}
use Rattle.std.specs.Option.{option_and_then}
use Rattle.sst_entries.specs.declared.error.Error.{Error}
use Rattle.sst_entries.specs.Entry.{Entry}
use Rattle.sst_blocks.specs.declared.entry_place.EntryPlace.{EntryPlace}
use Rattle.sst_blocks.specs.declared.opened.Opened.{Opened}
use Rattle.sst_blocks.specs.Asked.{result_map}
use Rattle.sst_blocks.specs.EntryPlace.{placed_in}
use Rattle.sst_blocks.specs.Opened.{none_opened}
use Rattle.sst_blocks.specs.Access.{in_memory}
use Rattle.lsm_readers.specs.point.Read.{DoesRead, Read}
use Rattle.lsm_readers.specs.point.Table.{OpenTable}
use Rattle.lsm_runs.specs.declared.lent_gets.RunPlace.{RunPlace}

-- the entry of a run at this position; none if the tables are too few, or the bytes too short
abbrev pub placed_in_run : List OpenTable → RunPlace → Option Entry
placed_in_run tables p = option_and_then (λ t. placed_in t.bytes p.place) (slice_get tables p.table)

-- the same of several runs
abbrev pub placed_in_runs : List (List OpenTable) → RunPlace → Option Entry
placed_in_runs runs p = option_and_then (λ tables. placed_in_run tables p) (slice_get runs p.run)

-- an entry is stored there
abbrev pub IsThere : List (List OpenTable) → RunPlace → Type 0
IsThere runs p = is_some (placed_in_runs runs p) ≡ true

-- the entry at a position that was found, if one was
abbrev pub entry_stored : List (List OpenTable) → Option RunPlace → Option Entry
entry_stored runs = option_and_then (placed_in_runs runs)

-- this holds of the entry at a position that was found, in any runs that have an entry there
abbrev pub OnEntryStored : Option RunPlace → (Option Entry → Type 0) → Type 0
OnEntryStored found P =
    (runs : List (List OpenTable)) → IfSome found (IsThere runs) → P (entry_stored runs found)

-- a call read a run: the entry at the position that it returned, and the blocks that it loaded
abbrev pub ReadsPlace : List OpenTable → Result (Option RunPlace) Error × Opened
    → Read (Option Entry) → Type 0
ReadsPlace tables result read = DoesRead in_memory
    (result_map (option_and_then (placed_in_run tables)) result.0) read none_opened result.1

-- the position of an entry in a table of a run
abbrev pub run_place : ℕ → ℕ → EntryPlace → RunPlace
run_place run table place = record { run = run; table = table; place = place }

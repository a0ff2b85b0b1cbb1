-- Packing tables into the fewest runs.
use Rattle.std.specs.Prelude.{◌≡◌, ◌<◌, ℕ, true, List, None, Some, filter, length, slice_get}
use Rattle.sst_entries.specs.Entry.{Entry}
use Rattle.lsm_sorted.specs.version.Packing.{ArePacked, ArePlaced, IsLeastSize, SameHolders}
use Rattle.lsm_sorted.specs.version.Packing.{SameTables}
use Rattle.lsm_sorted.specs.version.Packing.{tables_in}
use Rattle.lsm_readers.specs.point.Table.{OpenTable}
use Rattle.lsm_runs.specs.RunLists.{RunsHoldLists}
use Rattle.lsm_run_parts.specs.RunParts.{range_of}
use Rattle.lsm_runs.specs.SeveralRuns.{union_in}
use Rattle.lsm_runs.specs.compaction.Compacted.{AreCompactable}
use Rattle.lsm_runs.specs.compaction.Packed.{HoldUnion, has_table}
use Rattle.lsm_sorted.specs.declared.version.packed.Placed.{Placed}
use Rattle.sst_c.specs.What.{is_packing, packed_chain, packed_runs}
use Rattle.sst_c.specs.declared.held.What.{What}

-- these runs are a packing of others
pub record ArePackedOf (runs packed : List (List OpenTable)) : Type 0 where
  -- they have the same tables, each as often. The order of each key's tables is kept
  pub same : SameTables runs packed
  pub order : SameHolders range_of runs packed
  -- if several runs have a table: a table is one run after the last run with an earlier table that
  -- it overlaps, or in the first
  pub placed : 1 < length (filter has_table runs) → ArePlaced range_of (tables_in runs) packed
  -- each run is in order and not empty, and no fewer runs suffice
  pub ordered : ArePacked range_of packed
  pub least : IsLeastSize range_of runs (length packed)
  -- if the tables store lists, the runs hold the same entries, so reads find the same
  pub list : (lists : List (List (List Entry))) → RunsHoldLists runs lists →
      HoldUnion packed (union_in lists)
  -- they may be compacted if the others may
  pub able : AreCompactable runs → AreCompactable packed

-- the number of tables of a packed run, or 105 if there is no such run
pub record CountsRun (w : What) (run code count : ℕ) : Type 0 where
  pub none : is_packing w ≡ true → slice_get (packed_runs w) run ≡ None → code ≡ 105
  pub returned : (ts : List (Placed OpenTable)) → slice_get (packed_runs w) run ≡ Some ts
      → (code ≡ 0) × (count ≡ length ts)

-- the index in the list of the table at a place in a packed run, or 105 if there is none
pub record FindsPacked (w : What) (run place code table : ℕ) : Type 0 where
  pub no_run : is_packing w ≡ true → slice_get (packed_runs w) run ≡ None → code ≡ 105
  pub none : (ts : List (Placed OpenTable)) → slice_get (packed_runs w) run ≡ Some ts
      → slice_get ts place ≡ None → code ≡ 105
  pub returned : (ts : List (Placed OpenTable)) (t : Placed OpenTable)
      → slice_get (packed_runs w) run ≡ Some ts → slice_get ts place ≡ Some t
      → (code ≡ 0) × (table ≡ t.place)

-- the index in the list of the table at a place in the chain, or 105 if there is none
pub record FindsLink (w : What) (place code table : ℕ) : Type 0 where
  pub none : is_packing w ≡ true → slice_get (packed_chain w) place ≡ None → code ≡ 105
  pub returned : (p : ℕ × ℕ) → slice_get (packed_chain w) place ≡ Some p
      → (code ≡ 0) × (table ≡ p.0)

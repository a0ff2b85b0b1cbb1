-- Handles whose end keys are stored one after another in one buffer.
use Rattle.std.specs.Prelude.{ℕ, ◌≤◌, Bool, List, length, map, slice_range}
use Rattle.std.specs.List.{AllByRecursion}
use Rattle.sst_blocks.specs.Handle.{Handle}
use Rattle.sst_blocks.specs.Place.{Place}
use Rattle.sst_blocks.specs.table.Partitions.{is_full_index}
use Rattle.sst_blocks.specs.table.Parts.{parts_by}
use Rattle.lsm_writers.specs.declared.section.kept.HandlePlace.{HandlePlace}

-- the registered handles, and whether a call failed
pub record Kept : Type 0 where
  pub handles : List Handle
  pub failed : Bool

-- the handles of a partitioned index, cut into parts of this size
abbrev pub parts_of_index : ℕ → List Handle → List (List Handle)
parts_of_index size handles = parts_by (is_full_index size) handles

-- the handle of a block with this end key and seqno
abbrev pub handle_with : List ℕ → ℕ → Place → Handle
handle_with end_key seqno block = record {
  end_key = end_key;
  seqno = seqno;
  offset = block.offset;
  size = block.size;
}

-- the handle whose end key is a range of the buffer
abbrev pub handle_among : List ℕ → HandlePlace → Handle
handle_among keys p = handle_with (slice_range keys p.start p.end) p.seqno p.block

-- the handles whose end keys are these ranges of the buffer
abbrev pub handles_among : List ℕ → List HandlePlace → List Handle
handles_among keys ps = map (handle_among keys) ps

-- an end key is a range within the buffer
pub record LiesAmong (keys : List ℕ) (p : HandlePlace) : Type 0 where
  pub ordered : p.start ≤ p.end
  pub within : p.end ≤ length keys

-- all end keys are ranges within the buffer
abbrev pub AreAmong : List ℕ → List HandlePlace → Type 0
AreAmong keys ps = AllByRecursion (LiesAmong keys) ps

-- The unloaded data blocks of a range, as parts of a double-ended iteration.
use Rattle.std.specs.Prelude.{◌≡◌, true, List, [], ◌∷◌, map, Option, Result, Ok, Err}
use Rattle.sst_blocks.specs.declared.block_type.BlockType.TheVariants.{Data}
use Rattle.sst_blocks.specs.declared.opened.Opened.{Opened}
use Rattle.sst_blocks.specs.Block.{Loaded, load_result, place_fault, entries_of}
use Rattle.sst_blocks.specs.Cursor.{Cursor}
use Rattle.sst_blocks.specs.Handle.{Handle}
use Rattle.sst_blocks.specs.Place.{Place, place_of}
use Rattle.std.specs.Option.{option_map}
use Rattle.sst_entries.specs.declared.error.Error.{Error}
use Rattle.sst_entries.specs.declared.stream.Direction.{Direction}
use Rattle.sst_entries.specs.Entry.{Entry}
use Rattle.sst_entries.specs.Point.{within}
use Rattle.sst_entries.specs.Stream.{ok_results}
use Rattle.lsm_iters.specs.block_index.Left.{CountsLoads}
use Rattle.lsm_iters.specs.declared.walk.Walk.{Walk}
use Rattle.lsm_iters.specs.walk.Parts.{Coming, Loading, loads_in}
use Rattle.lsm_iters.specs.walk.Walks.{near}
use Rattle.lsm_iters.specs.Range.{Handles, Range, data_loaded, left_in}
use Rattle.lsm_iters.specs.Rows.{Bounded}
use Rattle.lsm_iters.specs.Lending.{behind_in, lent_in}
use Rattle.lsm_iters.specs.Lift.{lifted}
use Rattle.lsm_iters.specs.Steps.{all_over}

-- The range's bytes and bounds, its handles left, and its load counts.
pub record Blocks (A : Type 0) : Type 0 where
  pub of : Bounded
  pub handles : Handles A
  pub opened : Opened

-- The entries of a loaded block within the bounds, as stored, or the one error of loading it.
abbrev pub stored_in : Bounded → Result Loaded Error → List (Result Entry Error)
stored_in b (Ok block) = ok_results (within b.low b.high (entries_of block))
stored_in b (Err e) = Err e ∷ []

-- The entries of the block at an offset, and of the block that a handle names.
abbrev pub stored_at : Bounded → Place → List (Result Entry Error)
stored_at b p = stored_in b (load_result b.body p.offset p.size Data)

abbrev pub stored_rows : Bounded → Handle → List (Result Entry Error)
stored_rows b h = stored_at b (place_of h)

-- The block of a handle, or the index's error instead.
abbrev pub block_named : Bounded → Result Handle Error → Result (Loading Entry) Error
block_named b (Ok h) = Ok (record {
  results = stored_rows b h;
  early = place_fault b.body h.offset h.size Data;
})
block_named b (Err e) = Err e

-- The blocks that are not loaded yet.
abbrev pub coming_blocks : {A : Type 0} → Blocks A → Coming Entry
coming_blocks b = record {
  parts = map (block_named b.of) (left_in b.handles).results;
  loads = (left_in b.handles).loads;
}

-- One load counts itself and the index loads, and keeps the bytes, the bounds and the index.
pub record KeepsBlocks {A : Type 0} (s : Blocks A) (named : Option (Result (Loading Entry) Error))
    (t : Blocks A) : Type 0 where
  pub of : t.of ≡ s.of
  pub index : (left_in t.handles).index ≡ (left_in s.handles).index
  pub sought : t.handles.sought ≡ true
  pub counts : t.opened ≡ data_loaded (loads_in (named ∷ [])) s.opened
  pub loads : CountsLoads (left_in s.handles) (left_in t.handles)

-- No block is left to load.
abbrev pub EndsBlocks : {A : Type 0} → Blocks A → Blocks A → Type 0
EndsBlocks s t = t ≡ record s { handles = all_over s.handles }

-- An iteration over blocks is a range, given the entry that it lends.
abbrev pub range_lending : {A : Type 0} → Walk (Blocks A) Cursor → Option Entry → Range A
range_lending w lent = record {
  of = w.parts.of;
  handles = w.parts.handles;
  front = behind_in w.front;
  back = behind_in w.back;
  opened = w.parts.opened;
  lent = lent;
}

-- The current entry of the block at an end, global seqno applied.
abbrev pub lent_at : {A : Type 0} → Direction → Walk (Blocks A) Cursor → Option Entry
lent_at at w = option_map (lifted w.parts.of.global_seqno) (lent_in (near at w))

-- The range that lends from one end of an iteration.
abbrev pub range_at : {A : Type 0} → Direction → Walk (Blocks A) Cursor → Range A
range_at at w = range_lending w (lent_at at w)

-- An iteration with its two loaded blocks swapped.
abbrev pub swapped : {A : Type 0} → Walk (Blocks A) Cursor → Walk (Blocks A) Cursor
swapped w = record { parts = w.parts; front = w.back; back = w.front }

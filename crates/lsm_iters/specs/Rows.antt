-- The entries within bounds of the blocks that handles name.
use Rattle.std.specs.Prelude.{ℕ, List, [], ◌∷◌, Result, Ok, Err}
use Rattle.std.specs.List.{flat_map}
use Rattle.std.specs.declared.ops.Bound.{Bound}
use Rattle.sst_blocks.specs.declared.block_type.BlockType.TheVariants.{Data}
use Rattle.sst_entries.specs.declared.error.Error.{Error}
use Rattle.sst_entries.specs.Entry.{Entry}
use Rattle.sst_entries.specs.Point.{within}
use Rattle.sst_blocks.specs.Block.{Loaded, load_result, entries_of}
use Rattle.sst_blocks.specs.Handle.{Handle}
use Rattle.lsm_iters.specs.Lift.{lift_results}

-- The bytes before the trailer, the global seqno, and the bounds.
pub record Bounded : Type 0 where
  pub body : List ℕ
  pub global_seqno : ℕ
  pub low : Bound (List ℕ)
  pub high : Bound (List ℕ)

-- The entries of a loaded block within the bounds, global seqno applied, or the one error of
-- loading it.
abbrev pub rows_in : Bounded → Result Loaded Error → List (Result Entry Error)
rows_in b (Ok block) = lift_results b.global_seqno (within b.low b.high (entries_of block))
rows_in b (Err e) = Err e ∷ []

-- The entries of the block that a handle names.
abbrev pub block_rows : Bounded → Handle → List (Result Entry Error)
block_rows b h = rows_in b (load_result b.body h.offset h.size Data)

-- The same for a handle, or the index's error instead.
abbrev pub handle_rows : Bounded → Result Handle Error → List (Result Entry Error)
handle_rows b (Ok h) = block_rows b h
handle_rows b (Err e) = Err e ∷ []

-- The entries of the blocks of some handles, concatenated.
abbrev pub rows : Bounded → List (Result Handle Error) → List (Result Entry Error)
rows b hs = flat_map (handle_rows b) hs

-- A cached block.
use Rattle.std.specs.Prelude.{◌≡◌, ℕ, List, Option, Some, None, Ok}
use Rattle.sst_blocks.specs.declared.block_type.BlockType.{BlockType}
use Rattle.sst_blocks.specs.Block.{Loaded, load_result, place_fault}
use Rattle.sst_blocks.specs.Place.{Place}
use Rattle.lsm_readers.specs.declared.keeping.Kept.{Kept}

-- This block is the result of loading a block of a type at an offset.
pub record IsLoaded (body : List ℕ) (place : Place) (kind : BlockType) (b : Loaded) : Type 0 where
  pub returned : load_result body place.offset place.size kind ≡ Ok b
  pub early : place_fault body place.offset place.size kind ≡ None

-- A cached block, if any, is a block of these bytes.
abbrev pub KeepsOf : {A : Type 0} → List ℕ → Option (Kept A) → Type 0
KeepsOf body None = Unit {0}
KeepsOf body (Some kept) = IsLoaded body kept.handle (kept.block).kind kept.block

-- A cached block.
use Rattle.std.specs.Prelude.{◌≡◌, ℕ, IsSomeAnd, List, Option, Some, None, Ok}
use Rattle.sst_blocks.specs.declared.block_type.BlockType.{BlockType}
use Rattle.sst_blocks.specs.Block.{Loaded, load_result}
use Rattle.sst_blocks.specs.Place.{Place}
use Rattle.lsm_files.specs.declared.keeping.Kept.{Kept}

-- This block is the result of loading a block of a type at an offset.
abbrev pub IsLoadOf : List ℕ → Place → BlockType → Loaded → Type 0
IsLoadOf body place kind b = load_result body place.offset place.size kind ≡ Ok b

-- This block of a handle is cached.
abbrev pub IsCached : {A : Type 0} → Place → Loaded → Option (Kept A) → Type 0
IsCached place b kept = IsSomeAnd kept (λ k. (k.handle ≡ place) × (k.block ≡ b))

-- A cached block, if any, is a block of these bytes.
abbrev pub KeepsBlockOf : {A : Type 0} → List ℕ → Option (Kept A) → Type 0
KeepsBlockOf body None = Unit {0}
KeepsBlockOf body (Some kept) = IsLoadOf body kept.handle (kept.block).kind kept.block

-- Reading from bytes: the result, and the blocks loaded for it.
use Rattle.std.specs.Prelude.{◌≡◌, ℕ, ◌<◌, ◌≤◌, Bool, false, List, [], ◌∷◌, ◌++◌, length, take}
use Rattle.std.specs.Prelude.{Option, None, Result, Ok, Err, IsOk}
use Rattle.std.specs.Option.{option_or}
use Rattle.sst_entries.specs.declared.error.Error.{Error}
use Rattle.sst_entries.specs.Error.{FaultsFirst, Gives, is_memory}
use Rattle.sst_blocks.specs.declared.block_type.BlockType.{BlockType}
use Rattle.sst_blocks.specs.declared.opened.Opened.{Opened}
use Rattle.sst_blocks.specs.Access.{Access, IsInMemory, IsKnown}
use Rattle.sst_blocks.specs.Block.{Loaded, load_result, place_fault}
use Rattle.sst_blocks.specs.Opened.{with_load}
use Rattle.sst_blocks.specs.Place.{Place}

infixl 10 ◌>>=◌
-- The first error, or else the result of the next step.
abbrev pub ◌>>=◌ : {A B E : Type 0} → Result A E → (A → Result B E) → Result B E
(Ok x) >>= f = f x
(Err e) >>= f = Err e

-- A read: its result, the types of the blocks it loads in order, and its error that precedes
-- allocation.
pub record Read (X : Type 0) : Type 0 where
  pub returned : Result X Error
  pub loads : List BlockType
  pub early : Option Error

-- A value known without a load.
abbrev pub known : {X : Type 0} → X → Read X
known x = record { returned = Ok x; loads = []; early = None }

-- A read of one block.
abbrev pub block_read : List ℕ → Place → BlockType → Read Loaded
block_read body place kind = record {
  returned = load_result body place.offset place.size kind;
  loads = kind ∷ [];
  early = place_fault body place.offset place.size kind;
}

-- A read whose value is mapped by a function.
abbrev pub read_map : {X Y : Type 0} → (X → Y) → Read X → Read Y
read_map f r = record { returned = r.returned >>= λ x. Ok (f x); loads = r.loads; early = r.early }

abbrev pub loads_behind : {X Y : Type 0} → Result X Error → (X → Read Y) → List BlockType
loads_behind (Ok x) next = (next x).loads
loads_behind (Err e) next = []

abbrev pub early_then : {X Y : Type 0} → Result X Error → (X → Read Y) → Option Error
early_then (Ok x) next = (next x).early
early_then (Err e) next = None

-- After a load, later errors no longer precede allocation.
abbrev pub early_of : List BlockType → Option Error → Option Error → Option Error
early_of [] early behind = option_or early behind
early_of (k ∷ ks) early behind = early

-- A read, and then the next read on its value.
abbrev pub read_then : {X Y : Type 0} → Read X → (X → Read Y) → Read Y
read_then r next = record {
  returned = r.returned >>= λ x. (next x).returned;
  loads = r.loads ++ loads_behind r.returned next;
  early = early_of r.loads r.early (early_then r.returned next);
}

-- The counts after loads of these block types.
abbrev pub opened_by : List BlockType → Opened → Opened
opened_by [] o = o
opened_by (k ∷ ks) o = opened_by ks (with_load k o)

-- A call failed with `OutOfMemory`.
abbrev pub wants_memory : {X : Type 0} → Result X Error → Bool
wants_memory (Ok x) = false
wants_memory (Err e) = is_memory e

-- A call made a read's loads: all, or on `OutOfMemory` a part of them, but at least the first.
pub record Opens {X : Type 0} (r : Result X Error) (loads : List BlockType) (old new : Opened)
    : Type 0 where
  pub made : ℕ
  pub counts : new ≡ opened_by (take made loads) old
  pub within : made ≤ length loads
  pub whole : wants_memory r ≡ false → made ≡ length loads
  pub some : 0 < length loads → 0 < made

-- A call did a read from bytes that are known: except for `OutOfMemory` it returned its result, early
-- errors first where the bytes are in memory, and made its loads. A read without loads never fails.
pub record DoesRead {X : Type 0} (access : Access) (r : Result X Error) (read : Read X)
    (old new : Opened) : Type 0 where
  pub returned : Gives (λ (x : X). x) r read.returned
  pub early : IsInMemory access → FaultsFirst r read.early
  pub opens : Opens r read.loads old new
  pub calm : read.loads ≡ [] → IsOk r

-- If the bytes are known, a call did a read.
abbrev pub ReadsFrom : {X : Type 0} → Access → Result X Error → Read X → Opened → Opened → Type 0
ReadsFrom access r read old new = IsKnown access → DoesRead access r read old new

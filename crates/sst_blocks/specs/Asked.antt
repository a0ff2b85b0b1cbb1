-- Results of a query on one block in a table's bytes, or the first fault of loading the block.
use Rattle.std.specs.Prelude.{◌≡◌, ℕ, Bool, List, find, Option, Some, None, Result, Ok, Err}
use Rattle.std.specs.Option.{option_map}
use Rattle.sst_blocks.specs.declared.block_type.BlockType.TheVariants.{Data, Index, Filter}
use Rattle.sst_entries.specs.declared.error.Error.{Error}
use Rattle.sst_entries.specs.Entry.{Entry}
use Rattle.sst_entries.specs.Point.{point}
use Rattle.sst_blocks.specs.Block.{Loaded, entries_of, handles_of, load_result}
use Rattle.sst_blocks.specs.Handles.{reaches}
use Rattle.sst_blocks.specs.Place.{Place, place_of}
use Rattle.sst_blocks.specs.filter.Filter.{admits, filter_in}

-- a function applied to a result that is not an error
abbrev pub result_map : {X Y : Type 0} → (X → Y) → Result X Error → Result Y Error
result_map f (Ok x) = Ok (f x)
result_map f (Err e) = Err e

-- in a block of entries: the newest version of a key visible at a bound
abbrev pub point_of : List ℕ → ℕ → Loaded → Option Entry
point_of key bound b = point (entries_of b) key bound

-- in a block of handles: the position of the first block that reaches a key at a bound
abbrev pub place_for : List ℕ → ℕ → Loaded → Option Place
place_for key bound b = option_map place_of (find (reaches key bound) (handles_of b))

-- whether the filter of a block admits a hash
abbrev pub maybe_in : ℕ → Loaded → Bool
maybe_in hash b = admits (filter_in b.payload) hash

-- the newest version of a key visible at a bound in the data block at an offset, or the first fault
-- of loading the block
abbrev pub point_result : List ℕ → ℕ → ℕ → List ℕ → ℕ → Result (Option Entry) Error
point_result body offset size key bound =
    result_map (point_of key bound) (load_result body offset size Data)

-- the result of `place_for` on the index block at an offset, or the first fault of loading the
-- block
abbrev pub find_result : List ℕ → ℕ → ℕ → List ℕ → ℕ → Result (Option Place) Error
find_result body offset size key bound =
    result_map (place_for key bound) (load_result body offset size Index)

-- whether the filter block at an offset admits a hash, or the first fault of loading it
abbrev pub maybe_result : List ℕ → ℕ → ℕ → ℕ → Result Bool Error
maybe_result body offset size hash = result_map (maybe_in hash) (load_result body offset size Filter)

-- out of memory can only replace a value: the call returns an expected error or `None` exactly
abbrev pub IsSure : {X : Type 0} → Result (Option X) Error → Result (Option X) Error → Type 0
IsSure r (Ok (Some x)) = Unit {0}
IsSure r (Ok None) = r ≡ Ok None
IsSure r (Err e) = r ≡ Err e

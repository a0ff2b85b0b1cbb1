-- An index over any bytes: its handles between two edges, or an error instead of an unreadable
-- block.
use Rattle.std.specs.Prelude.{ℕ, List, [], ◌∷◌, length, Option, Result, Ok, Err}
use Rattle.std.specs.List.{flat_map}
use Rattle.sst_blocks.specs.declared.block_type.BlockType.TheVariants.{Index as IndexBlock}
use Rattle.sst_entries.specs.declared.error.Error.{Error}
use Rattle.sst_entries.specs.Stream.{ok_results}
use Rattle.sst_blocks.specs.Block.{Loaded, load_result, place_fault, handles_of}
use Rattle.sst_blocks.specs.Handle.{Handle}
use Rattle.sst_blocks.specs.Handles.{window}
use Rattle.sst_blocks.specs.Place.{Place, place_of}

-- The handles from the first that reaches the lower edge to the first that ends above the upper
-- one. Also the number of index blocks loaded for all of them; a missing edge is unbounded.
pub record Index : Type 0 where
  pub returned : Option (List ℕ × ℕ) → Option (List ℕ) → List (Result Handle Error)
  pub loads : Option (List ℕ × ℕ) → Option (List ℕ) → ℕ

-- The handles of a block between the edges, or the one error of loading it.
abbrev pub between : Option (List ℕ × ℕ) → Option (List ℕ) → Result Loaded Error
    → List (Result Handle Error)
between lower upper (Ok block) = ok_results (window (handles_of block) lower upper)
between lower upper (Err e) = Err e ∷ []

-- The handles between the edges of an index block in the bytes.
abbrev pub block_between : List ℕ → Option (List ℕ × ℕ) → Option (List ℕ) → Place
    → List (Result Handle Error)
block_between body lower upper place = between lower upper
    (load_result body place.offset place.size IndexBlock)

-- The index block's error that precedes allocation.
abbrev pub block_early : List ℕ → Place → Option Error
block_early body place = place_fault body place.offset place.size IndexBlock

-- The handles of the partitions that some top-level handles name, concatenated.
abbrev pub parts_between : List ℕ → Option (List ℕ × ℕ) → Option (List ℕ) → List Handle
    → List (Result Handle Error)
parts_between body lower upper tops = flat_map
    (λ top. block_between body lower upper (place_of top)) tops

-- One pinned block.
abbrev pub full : List Handle → Index
full handles = record {
  returned = λ lower upper. ok_results (window handles lower upper);
  loads = λ lower upper. 0;
}

-- One block that each iterator loads.
abbrev pub on_demand : List ℕ → Place → Index
on_demand body place = record {
  returned = λ lower upper. block_between body lower upper place;
  loads = λ lower upper. 1;
}

-- A pinned top level, and the partitions that its handles name.
abbrev pub two_level : List ℕ → List Handle → Index
two_level body tops = record {
  returned = λ lower upper. parts_between body lower upper (window tops lower upper);
  loads = λ lower upper. length (window tops lower upper);
}

-- The block index of an opened table.
use Rattle.std.specs.Prelude.{◌≡◌, ℕ, List, Option}
use Rattle.sst_entries.specs.Entry.{Entry}
use Rattle.sst_entries.specs.Stream.{ok_results}
use Rattle.sst_blocks.specs.Handles.{window}
use Rattle.sst_blocks.specs.Sections.{body_of}
use Rattle.sst_blocks.specs.table.Index.{handles}
use Rattle.sst_blocks.specs.table.Table.{IsTable}
use Rattle.lsm_iters.specs.block_index.Index.{Index}
use Rattle.lsm_readers.specs.point.IndexKinds.{index_over}
use Rattle.lsm_readers.specs.Stored.{StoresList}
use Rattle.lsm_readers.specs.point.Table.{OpenTable}

-- The index, of the kind that opening the table chose.
abbrev pub table_index : OpenTable → Index
table_index t = index_over (body_of t.bytes) t.parts.pinned.index t.parts.regions.tli

-- Between any two edges, an index has the stored table's data block handles, and no error.
abbrev pub NamesBlocksOf : {bytes : List ℕ} {es : List Entry} → StoresList bytes es → Index → Type 0
NamesBlocksOf t index = (lower : Option (List ℕ × ℕ)) (upper : Option (List ℕ)) →
    index.returned lower upper ≡ ok_results (window t.handles lower upper)

-- A written table's bytes store its list, with the handles of the data blocks as they were written.
abbrev pub StoresItsBlocks : {bytes : List ℕ} {es : List Entry} → IsTable bytes es → Type 0
StoresItsBlocks {bytes} {es} t =
    (s : StoresList bytes es) × (s.handles ≡ handles t.version ((t.file).content).blocks)

-- Two tables of a list have the same data blocks: equal version, data block size and spill
-- positions.
pub record AreCutAlike {a b : List ℕ} {es : List Entry} (t : IsTable a es) (u : IsTable b es)
    : Type 0 where
  pub version : t.version ≡ u.version
  pub size : (t.options).data_block_size ≡ (u.options).data_block_size
  pub spills : t.spills ≡ u.spills

-- Two indexes have the same results between any two edges.
abbrev pub ReadAlike : Index → Index → Type 0
ReadAlike one other = (lower : Option (List ℕ × ℕ)) (upper : Option (List ℕ)) →
    one.returned lower upper ≡ other.returned lower upper

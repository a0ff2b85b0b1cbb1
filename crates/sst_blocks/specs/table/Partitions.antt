-- Partitions: blocks of index or filter parts, and the top level with their handles.
use Rattle.std.specs.Prelude.{ℕ, ◌+◌, nat_le, Bool, List, [], ◌∷◌, length, map, None, sum_by}
use Rattle.std.specs.Prelude.{unwrap_or}
use Rattle.std.specs.List.{flat_map}
use Rattle.sst_blocks.specs.declared.version.TableVersion.{TableVersion}
use Rattle.sst_blocks.specs.declared.section.SectionName.TheVariants.{Index as IndexSection, Tli}
use Rattle.sst_blocks.specs.declared.block_type.BlockType.TheVariants.{Index}
use Rattle.sst_entries.specs.declared.value_type.ValueType.TheVariants.{Value}
use Rattle.sst_entries.specs.Entry.{Entry, entry}
use Rattle.sst_entries.specs.Strict.{last_of}
use Rattle.sst_blocks.specs.Block.{block_bytes, header_len}
use Rattle.sst_blocks.specs.Handle.{Handle}
use Rattle.sst_blocks.specs.Handles.{end_of, handles_payload}
use Rattle.sst_blocks.specs.table.Layout.{Sections}

-- the top level's data for a block: the key and sequence number that end it, and its size with the
-- header
pub record Partition : Type 0 where
  pub end_key : List ℕ
  pub seqno : ℕ
  pub size : ℕ

-- the handles of adjacent blocks, given the offset of the first
abbrev pub tops_from : ℕ → List Partition → List Handle
tops_from at [] = []
tops_from at (p ∷ ps) =
    (record { end_key = p.end_key; seqno = p.seqno; offset = at; size = p.size })
    ∷ tops_from (at + p.size) ps

-- a block of handles
abbrev pub handles_block : TableVersion → List Handle → List ℕ
handles_block v hs = block_bytes v Index (handles_payload v hs)

-- the bytes of a handle that count toward the partition size
abbrev pub handle_size : Handle → ℕ
handle_size h = length h.end_key + 48

abbrev pub is_full_index : ℕ → List Handle → Bool
is_full_index size hs = nat_le size (sum_by handle_size hs)

-- the last entry in a part's handles
abbrev pub last_end : List Handle → Entry
last_end hs = unwrap_or (last_of None (map end_of hs)) (entry [] [] 0 Value)

abbrev pub index_partition : TableVersion → List Handle → Partition
index_partition v part = record {
  end_key = (last_end part).user_key;
  seqno = (last_end part).seqno;
  size = header_len + length (handles_payload v part);
}

-- the top level of an index, given the offset of its first block
abbrev pub index_tops : TableVersion → ℕ → List (List Handle) → List Handle
index_tops v at parts = tops_from at (map (index_partition v) parts)

-- the sections of a partitioned index, given the offset of the first
abbrev pub partitioned_index : TableVersion → ℕ → List (List Handle) → Sections
partitioned_index v at parts =
    (IndexSection, flat_map (handles_block v) parts)
    ∷ (Tli, handles_block v (index_tops v at parts))
    ∷ []

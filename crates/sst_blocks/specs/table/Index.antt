-- The handles of the blocks of a list of chunks.
use Rattle.std.specs.Prelude.{ℕ, ◌+◌, List, [], ◌∷◌, length, None, unwrap_or}
use Rattle.std.specs.List.{flat_map}
use Rattle.sst_blocks.specs.declared.version.TableVersion.{TableVersion}
use Rattle.sst_blocks.specs.declared.block_type.BlockType.TheVariants.{Data}
use Rattle.sst_entries.specs.declared.value_type.ValueType.TheVariants.{Value}
use Rattle.sst_blocks.specs.Block.{block_bytes, header_len}
use Rattle.sst_entries.specs.Entry.{Entry, entry}
use Rattle.sst_blocks.specs.Handle.{Handle}
use Rattle.sst_blocks.specs.Payload.{payload}
use Rattle.sst_entries.specs.Strict.{last_of}

-- the last entry of a non-empty list
abbrev pub last_entry : List Entry → Entry
last_entry es = unwrap_or (last_of None es) (entry [] [] 0 Value)

-- the size of a chunk's block, with the header
abbrev pub block_size : TableVersion → List Entry → ℕ
block_size v c = header_len + length (payload v c)

-- the handle of a chunk's block at an offset: the key and sequence number of its last entry, the
-- offset and the size
abbrev pub handle_of : TableVersion → ℕ → List Entry → Handle
handle_of v offset c = record {
  end_key = (last_entry c).user_key;
  seqno = (last_entry c).seqno;
  offset = offset;
  size = block_size v c;
}

-- the handles of blocks stored one after another, without gaps
abbrev pub handles_from : TableVersion → ℕ → List (List Entry) → List Handle
handles_from v offset [] = []
handles_from v offset (c ∷ cs) = handle_of v offset c ∷ handles_from v (offset + block_size v c) cs

abbrev pub handles : TableVersion → List (List Entry) → List Handle
handles v cs = handles_from v 0 cs

-- the data section: a block for each chunk
abbrev pub data_block : TableVersion → List Entry → List ℕ
data_block v c = block_bytes v Data (payload v c)

abbrev pub data_section : TableVersion → List (List Entry) → List ℕ
data_section v cs = flat_map (data_block v) cs

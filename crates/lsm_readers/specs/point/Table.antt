-- An opened table, without its memory layout.
use Rattle.std.specs.Prelude.{◌≡◌, ℕ, ◌<◌, ◌^◌, Bool, List, length, Ok}
use Rattle.lsm_readers.specs.declared.inner.Inner.{Inner}
use Rattle.lsm_readers.specs.declared.inner.PinnedBlocks.{PinnedBlocks}
use Rattle.lsm_readers.specs.point.IndexKinds.{pinned_index_of}
use Rattle.lsm_readers.specs.point.Meta.{facts_of}
use Rattle.lsm_readers.specs.point.Parts.{Parts, Pinned, recovered_result}

-- The pinned blocks of a table.
abbrev pub pinned_of : {A : Type 0} → PinnedBlocks A → Pinned
pinned_of blocks = record {
  index = pinned_index_of blocks.index;
  filter_tops = blocks.filter_index;
  filter = blocks.filter_block;
}

abbrev pub parts_of : {A : Type 0} → Inner A → Parts
parts_of inner = record {
  facts = facts_of inner.metadata;
  regions = inner.regions;
  pinned = record {
    index = pinned_index_of inner.pinned_block_index;
    filter_tops = inner.pinned_filter_index;
    filter = inner.pinned_filter_block;
  };
}

-- Its bytes, the arguments of opening it, and the parts found.
pub record OpenTable : Type 0 where
  pub bytes : List ℕ
  pub global_seqno : ℕ
  pub tree_id : ℕ
  pub checksum : ℕ
  pub parts : Parts

abbrev pub table_of : {A : Type 0} → List ℕ → Inner A → OpenTable
table_of bytes inner = record {
  bytes = bytes;
  global_seqno = inner.global_seqno;
  tree_id = inner.tree_id;
  checksum = inner.checksum.0;
  parts = parts_of inner;
}

-- The table was recovered from its bytes, for some choice of pinned blocks.
pub record IsRecovered (t : OpenTable) : Type 0 where
  pub pin_filter : Bool
  pub pin_index : Bool
  pub returned : recovered_result t.bytes t.global_seqno pin_filter pin_index ≡ Ok t.parts

-- The table was recovered, and its bytes fit in memory.
pub record IsOpen (t : OpenTable) : Type 0 where
  pub recovered : IsRecovered t
  pub short : length t.bytes < 2 ^ 63

-- The table was opened with these pins, of the filter and of the index.
abbrev pub OpenedWith : OpenTable → Bool → Bool → Type 0
OpenedWith t pin_filter pin_index =
    recovered_result t.bytes t.global_seqno pin_filter pin_index ≡ Ok t.parts

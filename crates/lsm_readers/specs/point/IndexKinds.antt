-- Definitions by kind of a table's index: its pinned blocks, and lookups through them.
use Rattle.std.specs.Prelude.{ℕ, ◌-◌, Bool, List, find, Option, Some, None, is_some, Result, Ok}
use Rattle.std.specs.Prelude.{if◌then◌else◌}
use Rattle.std.specs.Option.{option_map}
use Rattle.sst_blocks.specs.declared.version.TableVersion.{TableVersion}
use Rattle.sst_entries.specs.declared.error.Error.{Error}
use Rattle.sst_blocks.specs.declared.block_type.BlockType.TheVariants.{Index as IndexBlock}
use Rattle.sst_blocks.specs.Block.{handles_of, header_len, load_result}
use Rattle.sst_blocks.specs.Handle.{Handle}
use Rattle.sst_blocks.specs.Handles.{reaches}
use Rattle.sst_blocks.specs.Place.{Place, place_of}
use Rattle.sst_blocks.specs.table.Partitions.{index_tops}
use Rattle.sst_blocks.specs.declared.table.options.IndexKind.{IndexKind}
use Rattle.sst_blocks.specs.declared.table.options.IndexKind.TheVariants.{Full as FullIndex}
use Rattle.sst_blocks.specs.declared.table.options.IndexKind.TheVariants.{
  Partitioned as PartitionedIndex,
}
use Rattle.lsm_iters.specs.declared.block_index.kinds.BlockIndexImpl.{BlockIndexImpl}
use Rattle.lsm_iters.specs.declared.block_index.kinds.BlockIndexImpl.TheVariants.{Full}
use Rattle.lsm_iters.specs.declared.block_index.kinds.BlockIndexImpl.TheVariants.{VolatileFull}
use Rattle.lsm_iters.specs.declared.block_index.kinds.BlockIndexImpl.TheVariants.{TwoLevel}
use Rattle.lsm_iters.specs.block_index.Index.{Index, full as full_index, on_demand}
use Rattle.lsm_iters.specs.block_index.Index.{two_level as two_level_index}
use Rattle.lsm_readers.specs.declared.pinned.PinnedBlockIndex.{PinnedBlockIndex}
use Rattle.lsm_readers.specs.declared.pinned.PinnedBlockIndex.TheVariants.{Full as FullKept}
use Rattle.lsm_readers.specs.declared.pinned.PinnedBlockIndex.TheVariants.{
  VolatileFull as NothingKept,
}
use Rattle.lsm_readers.specs.declared.pinned.PinnedBlockIndex.TheVariants.{TwoLevel as TopsKept}
use Rattle.lsm_readers.specs.declared.regions.ParsedRegions.{ParsedRegions}
use Rattle.lsm_readers.specs.point.Read.{◌>>=◌, Read, block_read, known, read_map}

-- The pinned handles: those of a full index, none of a volatile one, or those of a top level.
pub data PinnedIndex : Type 0 where
  full : List Handle → PinnedIndex
  volatile : PinnedIndex
  two_level : List Handle → PinnedIndex

abbrev pub pinned_index_of : {A : Type 0} → PinnedBlockIndex A → PinnedIndex
pinned_index_of (FullKept index) = full index
pinned_index_of NothingKept = volatile
pinned_index_of (TopsKept tops) = two_level tops

-- ---- opening an index

-- The handles of an index block.
abbrev pub handles_result : List ℕ → Place → Result (List Handle) Error
handles_result body place =
    load_result body place.offset place.size IndexBlock >>= λ block. Ok (handles_of block)

-- The index opened: its top level if it has partitions, otherwise the whole block if it is to be
-- pinned.
abbrev pub index_result : List ℕ → ParsedRegions → Bool → Result PinnedIndex Error
index_result body regions pin =
    if is_some regions.index
    then (handles_result body regions.tli >>= λ tops. Ok (two_level tops))
    else (if pin then (handles_result body regions.tli >>= λ handles. Ok (full handles))
    else Ok volatile)

-- The pinned part of a written index whose partitions start at an offset.
abbrev pub index_said : IndexKind → TableVersion → ℕ → List Handle → List (List Handle) → Bool
    → PinnedIndex
index_said FullIndex v at hs parts pin = if pin then full hs else volatile
index_said (PartitionedIndex size) v at hs parts pin = two_level (index_tops v at parts)

-- The payload length of the pinned index block, or 0 if none is pinned.
abbrev pub index_len : PinnedIndex → Place → ℕ
index_len (full handles) tli = tli.size - header_len
index_len volatile tli = 0
index_len (two_level tops) tli = tli.size - header_len

-- ---- a lookup by an index

-- The block of the first handle that reaches a key at a snapshot.
abbrev pub place_in : List Handle → List ℕ → ℕ → Option Place
place_in handles key bound = option_map place_of (find (reaches key bound) handles)

-- The block that an index block has for a key at a snapshot.
abbrev pub handle_in_block : List ℕ → List ℕ → ℕ → Place → Read (Option Place)
handle_in_block body key bound place =
    read_map (λ block. place_in (handles_of block) key bound) (block_read body place IndexBlock)

-- The block that a partition has for a key at a snapshot, if there is a partition.
abbrev pub handle_in_part : List ℕ → List ℕ → ℕ → Option Place → Read (Option Place)
handle_in_part body key bound None = known None
handle_in_part body key bound (Some place) = handle_in_block body key bound place

-- The first data block that reaches a key at a snapshot. The pinned handles, the one index block or
-- one partition finds it.
abbrev pub handle_by : List ℕ → PinnedIndex → Place → List ℕ → ℕ → Read (Option Place)
handle_by body (full handles) tli key bound = known (place_in handles key bound)
handle_by body volatile tli key bound = handle_in_block body key bound tli
handle_by body (two_level tops) tli key bound =
    handle_in_part body key bound (place_in tops key bound)

-- A bound on the index blocks that a point read loads: none for a pinned full index.
abbrev pub most_index_loads : PinnedIndex → ℕ
most_index_loads (full handles) = 0
most_index_loads volatile = 1
most_index_loads (two_level tops) = 1

-- ---- an index over the pinned blocks, and its kind

-- The index over pinned handles, over a block on demand, or over the partitions of a top level.
abbrev pub index_over : List ℕ → PinnedIndex → Place → Index
index_over body (full handles) tli = full_index handles
index_over body volatile tli = on_demand body tli
index_over body (two_level tops) tli = two_level_index body tops

-- The kinds of index: pinned whole, loaded by each iterator, or a top level over partitions.
pub data Kind : Type 0 where
  whole : Kind
  on_each_read : Kind
  partitioned : Kind

abbrev pub index_kind_of : {A : Type 0} → BlockIndexImpl A → Kind
index_kind_of (Full index) = whole
index_kind_of (VolatileFull index) = on_each_read
index_kind_of (TwoLevel index) = partitioned

-- The kind of index over these pinned blocks.
abbrev pub kind_kept : PinnedIndex → Kind
kind_kept (full handles) = whole
kind_kept volatile = on_each_read
kind_kept (two_level tops) = partitioned

-- The kind of index, by whether it has partitions and whether it is to be pinned.
abbrev pub kind_for : Bool → Bool → Kind
kind_for has_partitions pin =
    if has_partitions then partitioned else (if pin then whole else on_each_read)

-- The options of a table writer, as C passes them.
use Rattle.std.specs.Prelude.{ℕ, ◌==◌, ◌&&◌, Bool, nat_le, nat_lt, if◌then◌else◌}
use Rattle.sst_blocks.specs.declared.filter.policy.BloomConstructionPolicy.TheVariants.{BitsPerKey}
use Rattle.sst_blocks.specs.declared.table.options.FilterKind.{FilterKind}
use Rattle.sst_blocks.specs.declared.table.options.FilterKind.TheVariants.{Full as FullFilter}
use Rattle.sst_blocks.specs.declared.table.options.FilterKind.TheVariants.{
  Partitioned as PartitionedFilter,
}
use Rattle.sst_blocks.specs.declared.table.options.IndexKind.{IndexKind}
use Rattle.sst_blocks.specs.declared.table.options.IndexKind.TheVariants.{Full as FullIndex}
use Rattle.sst_blocks.specs.declared.table.options.IndexKind.TheVariants.{
  Partitioned as PartitionedIndex,
}
use Rattle.sst_blocks.specs.table.Options.{label_of}
use Rattle.sst_blocks.specs.declared.table.options.Options.{Options}
use Rattle.lsm_writers.specs.Writing.{Writing, fresh_writing}
use Rattle.sst_c.specs.declared.options.TableOptions.{TableOptions}

-- the default options
abbrev pub decode_default : TableOptions
decode_default = record {
  id = 0;
  created_at = 0;
  level = 0;
  data_block_size = 4096;
  data_block_restart_interval = 16;
  data_block_hash_ratio = 0;
  index_partition_size = 0;
  filter_partition_size = 0;
  filter_bits_per_key = 100;
  unused = 0;
}

-- the level and the restart interval fit a byte, the interval is not 0, and no block or partition
-- exceeds 4 MiB
abbrev pub are_usable : TableOptions → Bool
are_usable o = nat_lt o.level 256 && nat_le o.data_block_size 4194304
    && nat_lt 0 o.data_block_restart_interval && nat_lt o.data_block_restart_interval 256
    && nat_le o.index_partition_size 4194304 && nat_le o.filter_partition_size 4194304

-- an index with partitions of this size, or in one block if it is 0
abbrev pub decode_index_kind : ℕ → IndexKind
decode_index_kind size = if size == 0 then FullIndex else PartitionedIndex size

-- a filter with partitions of this size, or in one block if it is 0
abbrev pub decode_filter_kind : ℕ → FilterKind
decode_filter_kind size = if size == 0 then FullFilter else PartitionedFilter size

-- the options of the library's writer
abbrev pub decode_options : TableOptions → Options
decode_options o = record {
  data_block_restart_interval = o.data_block_restart_interval;
  index_block_restart_interval = 1;
  data_block_hash_ratio = o.data_block_hash_ratio;
  data_block_size = o.data_block_size;
  index_kind = decode_index_kind o.index_partition_size;
  filter_kind = decode_filter_kind o.filter_partition_size;
  bloom_policy = BitsPerKey o.filter_bits_per_key;
}

-- a writer with these options that has written nothing
abbrev pub decode_writing : TableOptions → Writing
decode_writing o =
    fresh_writing (label_of o.id o.level o.created_at) (decode_options o)

-- The options and the table info with which a table is written.
use Rattle.std.specs.Prelude.{ℕ}
use Rattle.sst_blocks.specs.declared.filter.policy.BloomConstructionPolicy.TheVariants.{BitsPerKey}
use Rattle.sst_blocks.specs.declared.table.options.FilterKind.TheVariants.{Full as FullFilter}
use Rattle.sst_blocks.specs.declared.table.options.IndexKind.TheVariants.{Full as FullIndex}
use Rattle.sst_blocks.specs.declared.table.label.Label.{Label}
use Rattle.sst_blocks.specs.declared.table.options.Options.{Options}

-- default options: sizes in bytes, the hash ratio in thousandths, bits per key in tenths
abbrev pub default_options : Options
default_options = record {
  data_block_restart_interval = 16;
  index_block_restart_interval = 1;
  data_block_hash_ratio = 0;
  data_block_size = 4096;
  index_kind = FullIndex;
  filter_kind = FullFilter;
  bloom_policy = BitsPerKey 100;
}

-- the table info of these parts
abbrev pub label_of : ℕ → ℕ → ℕ → Label
label_of id level moment = record { table_id = id; initial_level = level; created_at = moment }

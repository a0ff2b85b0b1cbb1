-- Counts of loaded blocks by type.
use Rattle.std.specs.Prelude.{ℕ, ◌+◌, ◌-◌, ◌^◌, min}
use Rattle.sst_blocks.specs.declared.block_type.BlockType.{BlockType}
use Rattle.sst_blocks.specs.declared.block_type.BlockType.TheVariants.{Data, Index, Filter, Meta}
use Rattle.sst_blocks.specs.declared.opened.Opened.{Opened}

-- one more, saturating
abbrev pub one_more : ℕ → ℕ
one_more n = min (n + 1) (2 ^ 64 - 1)

-- one more load of a block type
abbrev pub with_load : BlockType → Opened → Opened
with_load Data o = record o { data_loads = one_more o.data_loads }
with_load Index o = record o { index_loads = one_more o.index_loads }
with_load Filter o = record o { filter_loads = one_more o.filter_loads }
with_load Meta o = record o { meta_loads = one_more o.meta_loads }

abbrev pub none_opened : Opened
none_opened = record { data_loads = 0; index_loads = 0; filter_loads = 0; meta_loads = 0 }

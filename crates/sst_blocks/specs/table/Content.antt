-- The contents of a table.
use Rattle.std.specs.Prelude.{ℕ, List}
use Rattle.sst_entries.specs.Entry.{Entry}
use Rattle.sst_blocks.specs.Handle.{Handle}
use Rattle.sst_blocks.specs.filter.Filter.{BloomFilter}

-- the entries of each data block, the handles of each index block below the top level, the keys of
-- each filter, and the filters
pub record Content : Type 0 where
  pub blocks : List (List Entry)
  pub index : List (List Handle)
  pub keys : List (List (List ℕ))
  pub filters : List BloomFilter

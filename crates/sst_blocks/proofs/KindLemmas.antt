-- Parts as they are cut are those of their kind.
use Rattle.std.proofs.Common.{refl, ℕ, List}
use Rattle.sst_blocks.specs.Handle.{Handle}
use Rattle.sst_blocks.specs.declared.filter.policy.BloomConstructionPolicy.{BloomConstructionPolicy}
use Rattle.sst_blocks.specs.declared.table.options.FilterKind.{FilterKind}
use Rattle.sst_blocks.specs.declared.table.options.FilterKind.TheVariants.{Full as FullFilter}
use Rattle.sst_blocks.specs.declared.table.options.FilterKind.TheVariants.{
  Partitioned as PartitionedFilter,
}
use Rattle.sst_blocks.specs.declared.table.options.IndexKind.{IndexKind}
use Rattle.sst_blocks.specs.declared.table.options.IndexKind.TheVariants.{Full as FullIndex}
use Rattle.sst_blocks.specs.declared.table.options.IndexKind.TheVariants.{
  Partitioned as PartitionedIndex,
}
use Rattle.sst_blocks.proofs.PartLaws.{are_parts_of}
use Rattle.sst_blocks.specs.table.Filters.{is_full_filter}
use Rattle.sst_blocks.specs.table.Kinds.{AreIndexParts, index_parts, AreFilterParts, filter_parts}
use Rattle.sst_blocks.specs.table.Partitions.{is_full_index}

pub index_parts_are : (k : IndexKind) (hs : List Handle) → AreIndexParts k hs (index_parts k hs)
index_parts_are FullIndex hs = refl
index_parts_are (PartitionedIndex size) hs = are_parts_of (is_full_index size) hs

pub filter_parts_are : (k : FilterKind) (policy : BloomConstructionPolicy) (keys : List (List ℕ))
    → AreFilterParts k policy keys (filter_parts k policy keys)
filter_parts_are FullFilter policy keys = refl
filter_parts_are (PartitionedFilter size) policy keys =
    are_parts_of (is_full_filter policy size) keys

-- The index and filter of a table, by their kinds.
use Rattle.std.specs.Prelude.{◌≡◌, ℕ, List, [], ◌∷◌, length}
use Rattle.sst_blocks.specs.declared.version.TableVersion.{TableVersion}
use Rattle.sst_blocks.specs.declared.section.SectionName.TheVariants.{Tli}
use Rattle.sst_blocks.specs.Handle.{Handle}
use Rattle.sst_blocks.specs.declared.filter.policy.BloomConstructionPolicy.{BloomConstructionPolicy}
use Rattle.sst_blocks.specs.filter.Filter.{BloomFilter}
use Rattle.sst_blocks.specs.declared.table.options.FilterKind.{FilterKind}
use Rattle.sst_blocks.specs.declared.table.options.FilterKind.TheVariants.{Full as FullFilter}
use Rattle.sst_blocks.specs.declared.table.options.FilterKind.TheVariants.{
  Partitioned as PartitionedFilter,
}
use Rattle.sst_blocks.specs.declared.table.options.IndexKind.{IndexKind}
use Rattle.sst_blocks.specs.declared.table.options.IndexKind.TheVariants.{Full as FullIndex}
use Rattle.sst_blocks.specs.declared.table.options.IndexKind.TheVariants.{
  Partitioned as PartitionedIndex,
}
use Rattle.sst_blocks.specs.table.Filters.{full_filter, partitioned_filter, is_full_filter}
use Rattle.sst_blocks.specs.table.Layout.{Sections}
use Rattle.sst_blocks.specs.table.Partitions.{handles_block, is_full_index, partitioned_index}
use Rattle.sst_blocks.specs.table.Parts.{ArePartsOf, parts_by, rest_part}

-- the handles of each index block, below a top level if there is one
abbrev pub AreIndexParts : IndexKind → List Handle → List (List Handle) → Type 0
AreIndexParts FullIndex hs parts = parts ≡ hs ∷ []
AreIndexParts (PartitionedIndex size) hs parts = ArePartsOf (is_full_index size) hs parts

-- the parts of an index, each cut as soon as it is full
abbrev pub index_parts : IndexKind → List Handle → List (List Handle)
index_parts FullIndex hs = hs ∷ []
index_parts (PartitionedIndex size) hs = parts_by (is_full_index size) hs

-- the kind with this partition size, if it has partitions
abbrev pub index_with_size : ℕ → IndexKind → IndexKind
index_with_size size FullIndex = FullIndex
index_with_size size (PartitionedIndex before) = PartitionedIndex size

-- a full index: one block with all handles
abbrev pub full_index : TableVersion → List Handle → Sections
full_index v hs = (Tli, handles_block v hs) ∷ []

-- the sections of an index with these parts, given the offset of the first
abbrev pub index_sections : IndexKind → TableVersion → ℕ → List Handle → List (List Handle)
    → Sections
index_sections FullIndex v at hs parts = full_index v hs
index_sections (PartitionedIndex size) v at hs parts = partitioned_index v at parts

-- the keys of each filter: one part with all keys, if any, or several
abbrev pub AreFilterParts : FilterKind → BloomConstructionPolicy → List (List ℕ)
    → List (List (List ℕ)) → Type 0
AreFilterParts FullFilter policy keys parts = parts ≡ rest_part keys
AreFilterParts (PartitionedFilter size) policy keys parts =
    ArePartsOf (is_full_filter policy size) keys parts

-- the keys of each filter, each cut as soon as it is full
abbrev pub filter_parts : FilterKind → BloomConstructionPolicy → List (List ℕ)
    → List (List (List ℕ))
filter_parts FullFilter policy keys = rest_part keys
filter_parts (PartitionedFilter size) policy keys = parts_by (is_full_filter policy size) keys

-- the sections of filters, given the offset of the first
abbrev pub filter_sections : FilterKind → TableVersion → ℕ → List (List (List ℕ))
    → List BloomFilter → Sections
filter_sections FullFilter v at parts fs = full_filter v fs
filter_sections (PartitionedFilter size) v at parts fs = partitioned_filter v at parts fs

-- the kind with this partition size, if it has partitions
abbrev pub filter_with_size : ℕ → FilterKind → FilterKind
filter_with_size size FullFilter = FullFilter
filter_with_size size (PartitionedFilter before) = PartitionedFilter size

-- the number of filter blocks counted: one for a full filter, even if none is written
abbrev pub filter_count : FilterKind → List BloomFilter → ℕ
filter_count FullFilter fs = 1
filter_count (PartitionedFilter size) fs = length fs

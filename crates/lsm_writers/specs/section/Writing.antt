-- The sections that a filter writer writes.
use Rattle.std.specs.Prelude.{◌≡◌, ℕ, List, [], ◌∷◌, length, map}
use Rattle.std.specs.List.{AllByRecursion, flat_map}
use Rattle.sst_blocks.specs.declared.version.TableVersion.TheVariants.{V4}
use Rattle.sst_blocks.specs.Sections.{Written}
use Rattle.sst_blocks.specs.declared.section.SectionName.TheVariants.{Filter as FilterSection}
use Rattle.sst_blocks.specs.declared.section.SectionName.TheVariants.{FilterTli}
use Rattle.sst_blocks.specs.Handle.{Handle}
use Rattle.sst_blocks.specs.declared.filter.policy.BloomConstructionPolicy.{BloomConstructionPolicy}
use Rattle.sst_blocks.specs.filter.Filter.{BloomFilter}
use Rattle.sst_blocks.specs.declared.table.options.FilterKind.{FilterKind}
use Rattle.sst_blocks.specs.declared.table.options.FilterKind.TheVariants.{Full}
use Rattle.sst_blocks.specs.table.Filters.{AreFiltersFor, filter_block}
use Rattle.sst_blocks.specs.table.Fits.{SectionFits}
use Rattle.sst_blocks.specs.table.Kinds.{filter_count, filter_parts, filter_sections}
use Rattle.sst_blocks.specs.table.Layout.{Sections, appended}
use Rattle.sst_blocks.specs.table.Partitions.{handles_block, tops_from}
use Rattle.lsm_writers.specs.section.Given.{GivenKeys, IsSomePart, keys_in, key_parts_of}
use Rattle.lsm_writers.specs.section.Held.{AreFiltersOf, CutPart, filters_of, partition_of}

-- the filter sections of these keys, after the bytes written before
abbrev pub sections_behind : FilterKind → BloomConstructionPolicy → List (List ℕ) → Written
    → List BloomFilter → Sections
sections_behind kind policy keys before fs =
    filter_sections kind V4 (length before.bytes) (filter_parts kind policy keys) fs

-- the filters of these keys are written after the bytes before, and `count` blocks are counted
pub record WritesFilter (kind : FilterKind) (policy : BloomConstructionPolicy)
    (keys : List (List ℕ)) (before after : Written) (count : ℕ) : Type 0 where
  pub filters : List BloomFilter
  pub are : AreFiltersFor policy (filter_parts kind policy keys) filters
  pub written : after ≡ appended before (sections_behind kind policy keys before filters)
  pub counted : count ≡ filter_count kind filters
  pub fit : AllByRecursion SectionFits (sections_behind kind policy keys before filters)

-- the filter sections of these parts of keys, after the bytes written before
abbrev pub key_sections : FilterKind → BloomConstructionPolicy → GivenKeys → Written
    → List BloomFilter → Sections
key_sections kind policy given before fs =
    filter_sections kind V4 (length before.bytes) (keys_in (key_parts_of policy given)) fs

-- the filters of these parts are written after the bytes before, and `count` blocks are counted.
-- The pending part has this policy, each other part its own
pub record WritesParts (kind : FilterKind) (policy : BloomConstructionPolicy) (given : GivenKeys)
    (before after : Written) (count : ℕ) : Type 0 where
  pub uncut : kind ≡ Full → given.cut ≡ []
  pub some : AllByRecursion IsSomePart (key_parts_of policy given)
  pub filters : List BloomFilter
  pub are : AreFiltersOf (key_parts_of policy given) filters
  pub written : after ≡ appended before (key_sections kind policy given before filters)
  pub counted : count ≡ filter_count kind filters
  pub fit : AllByRecursion SectionFits (key_sections kind policy given before filters)

-- the top-level handles of these parts, if the first part is at this offset
abbrev pub tops_of : ℕ → List CutPart → List Handle
tops_of at parts = tops_from at (map partition_of parts)

-- the top-level block of these parts, if the first part is at this offset
abbrev pub tops_block : ℕ → List CutPart → List ℕ
tops_block at parts = handles_block V4 (tops_of at parts)

-- the sections of these parts and their top level, if the first part is at this offset
abbrev pub part_sections : ℕ → List CutPart → Sections
part_sections at parts =
    (FilterSection, flat_map (filter_block V4) (filters_of parts))
    ∷ (FilterTli, tops_block at parts)
    ∷ []

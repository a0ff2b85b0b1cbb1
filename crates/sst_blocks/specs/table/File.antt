-- The bytes of a table.
use Rattle.std.specs.Prelude.{◌≡◌, ℕ, List, [], ◌∷◌, ◌++◌, length, All}
use Rattle.sst_blocks.specs.declared.version.TableVersion.{TableVersion}
use Rattle.sst_blocks.specs.declared.section.SectionName.{SectionName}
use Rattle.sst_blocks.specs.declared.block_type.BlockType.TheVariants.{Meta}
use Rattle.sst_blocks.specs.declared.section.SectionName.TheVariants.{Data}
use Rattle.sst_blocks.specs.declared.section.SectionName.TheVariants.{
  TableVersion as VersionSection,
}
use Rattle.sst_blocks.specs.declared.section.SectionName.TheVariants.{Meta as MetaSection}
use Rattle.sst_blocks.specs.Block.{block_bytes}
use Rattle.sst_entries.specs.Entry.{Entry}
use Rattle.sst_blocks.specs.Payload.{payload}
use Rattle.sst_blocks.specs.Sections.{finished, Written, slot_index}
use Rattle.sst_blocks.specs.table.Chunks.{AreChunks}
use Rattle.sst_blocks.specs.table.Index.{handles, data_section}
use Rattle.sst_blocks.specs.table.Content.{Content}
use Rattle.sst_blocks.specs.table.Filters.{filtered_keys, AreFiltersFor}
use Rattle.sst_blocks.specs.table.Kinds.{AreIndexParts, index_sections, AreFilterParts}
use Rattle.sst_blocks.specs.table.Kinds.{filter_sections}
use Rattle.sst_blocks.specs.table.Kinds.{filter_count}
use Rattle.sst_blocks.specs.table.Layout.{Sections, bytes_in, laid}
use Rattle.sst_blocks.specs.table.MetaBlock.{BlockCounts, meta_entries, version_number}
use Rattle.sst_blocks.specs.declared.table.options.Options.{Options}
use Rattle.sst_blocks.specs.declared.table.label.Label.{Label}

-- the numbers of index and filter blocks
abbrev pub counted_blocks : Options → Content → BlockCounts
counted_blocks options c = record {
  index = length c.index;
  filter = filter_count options.filter_kind c.filters;
}

-- the section with the number of the format version
abbrev pub version_section : TableVersion → Sections
version_section v = (VersionSection, version_number v ∷ []) ∷ []

-- the section with the block of meta items
abbrev pub meta_section : TableVersion → List Entry → Sections
meta_section v items = (MetaSection, block_bytes v Meta (payload v items)) ∷ []

-- the sections do not include an index, a filter, a version or a meta block
abbrev pub HasNoIndex : Written → Type 0
HasNoIndex w =
    All (λ (s : SectionName × ℕ). (slot_index s.0 ≡ 1 → ⊥) × (slot_index s.0 ≡ 2 → ⊥)) w.started

abbrev pub HasNoFilter : Written → Type 0
HasNoFilter w =
    All (λ (s : SectionName × ℕ). (slot_index s.0 ≡ 3 → ⊥) × (slot_index s.0 ≡ 4 → ⊥)) w.started

abbrev pub HasNoVersion : Written → Type 0
HasNoVersion w = All (λ (s : SectionName × ℕ). slot_index s.0 ≡ 5 → ⊥) w.started

abbrev pub HasNoMeta : Written → Type 0
HasNoMeta w = All (λ (s : SectionName × ℕ). slot_index s.0 ≡ 6 → ⊥) w.started

-- the version and the meta block
abbrev pub closing_sections : TableVersion → Label → Options → Content → Sections
closing_sections v label options c =
    version_section v
    ++ meta_section v (meta_entries v label options c.blocks (counted_blocks options c))

-- the data blocks, then the index, then the filter, each by its kind
abbrev pub index_part : TableVersion → Options → Content → Sections
index_part v options c =
    let at = length (data_section v c.blocks) in
    index_sections options.index_kind v at (handles v c.blocks) c.index

abbrev pub front_sections : TableVersion → Options → Content → Sections
front_sections v options c = (Data, data_section v c.blocks) ∷ index_part v options c

abbrev pub filter_part : TableVersion → Options → Content → Sections
filter_part v options c =
    let at = length (bytes_in (front_sections v options c)) in
    filter_sections options.filter_kind v at c.keys c.filters

-- the data blocks, the index, the filter, the version and the meta block
abbrev pub sections_of : TableVersion → Label → Options → Content → Sections
sections_of v label options c =
    front_sections v options c ++ filter_part v options c ++ closing_sections v label options c

-- a table's bytes: the sections and their trailer
abbrev pub file : TableVersion → Label → Options → Content → List ℕ
file v label options c = finished (laid (sections_of v label options c))

-- the content of a table of a list: the data block chunks, the index parts, the filter's key parts,
-- and a filter for each part
pub record IsContent (v : TableVersion) (options : Options) (spills : List ℕ) (es : List Entry)
    (c : Content) : Type 0 where
  pub chunks : AreChunks options.data_block_size spills es c.blocks
  pub index : AreIndexParts options.index_kind (handles v c.blocks) c.index
  pub keys : AreFilterParts options.filter_kind options.bloom_policy
      (filtered_keys options.bloom_policy es) c.keys
  pub filters : AreFiltersFor options.bloom_policy c.keys c.filters

-- the bytes are a table file of a list
pub record IsFile (v : TableVersion) (bytes : List ℕ) (label : Label) (options : Options)
    (spills : List ℕ) (es : List Entry) : Type 0 where
  pub content : Content
  pub is : IsContent v options spills es content
  pub are : bytes ≡ file v label options content

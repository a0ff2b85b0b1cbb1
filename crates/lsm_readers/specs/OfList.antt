-- The result of opening the table of a list.
use Rattle.std.specs.Prelude.{◌≡◌, ℕ, ◌+◌, ◌-◌, ◌^◌, ◌==◌, nat_lt, Bool, List, [], ◌∷◌, ◌++◌}
use Rattle.std.specs.Prelude.{length, Option, Some, None, unwrap_or, Result, Ok, Err, if◌then◌else◌}
use Rattle.sst_blocks.specs.declared.section.SectionName.{SectionName}
use Rattle.sst_blocks.specs.declared.section.SectionName.TheVariants.{Index, Tli, Filter}
use Rattle.sst_blocks.specs.declared.section.SectionName.TheVariants.{FilterTli, Meta}
use Rattle.sst_blocks.specs.declared.version.TableVersion.{TableVersion}
use Rattle.sst_blocks.specs.Sections.{slot_index}
use Rattle.sst_entries.specs.declared.error.Error.{Error}
use Rattle.sst_entries.specs.declared.error.Error.TheVariants.{GlobalSeqNoTooLarge}
use Rattle.sst_entries.specs.Entry.{Entry}
use Rattle.sst_entries.specs.Stream.{first}
use Rattle.sst_blocks.specs.Handle.{Handle}
use Rattle.sst_blocks.specs.Place.{Place}
use Rattle.sst_blocks.specs.filter.Filter.{BloomFilter}
use Rattle.lsm_sorted.specs.version.KeyRange.{Interval, interval}
use Rattle.sst_blocks.specs.table.Content.{Content}
use Rattle.sst_blocks.specs.table.Facts.{facts, highest_seqno}
use Rattle.sst_blocks.specs.table.File.{closing_sections, filter_part, front_sections, index_part}
use Rattle.sst_blocks.specs.table.Filters.{filter_partitions}
use Rattle.sst_blocks.specs.table.Index.{handles, data_section}
use Rattle.sst_blocks.specs.table.Layout.{Sections, bytes_in}
use Rattle.sst_blocks.specs.table.Partitions.{tops_from}
use Rattle.sst_blocks.specs.declared.table.options.FilterKind.{FilterKind}
use Rattle.sst_blocks.specs.declared.table.options.FilterKind.TheVariants.{Full as FullFilter}
use Rattle.sst_blocks.specs.declared.table.options.FilterKind.TheVariants.{
  Partitioned as PartitionedFilter,
}
use Rattle.sst_blocks.specs.declared.table.options.Options.{Options}
use Rattle.sst_blocks.specs.declared.table.label.Label.{Label}
use Rattle.sst_blocks.specs.table.Table.{IsTable}
use Rattle.lsm_readers.specs.declared.regions.ParsedRegions.{ParsedRegions}
use Rattle.lsm_readers.specs.point.IndexKinds.{index_said}
use Rattle.lsm_readers.specs.point.Meta.{facts_said}
use Rattle.lsm_readers.specs.point.Parts.{Parts, Pinned}

-- The first and the last key of a list.
abbrev pub ends_of : List Entry → Interval
ends_of es = interval (facts es).min_key (facts es).max_key

-- The offset and size of a named section among contiguous sections that start at an offset.
abbrev pub place_from : ℕ → Sections → SectionName → Option Place
place_from at [] name = None
place_from at (s ∷ ss) name =
    if slot_index s.0 == slot_index name then Some (record { offset = at; size = length s.1 })
    else place_from (at + length s.1) ss name

abbrev pub no_place : Place
no_place = record { offset = 0; size = 0 }

-- The table's regions among contiguous sections.
abbrev pub regions_laid : ℕ → Sections → ParsedRegions
regions_laid at ss = record {
  tli = unwrap_or (place_from at ss Tli) no_place;
  index = place_from at ss Index;
  filter_tli = place_from at ss FilterTli;
  filter = place_from at ss Filter;
  metadata = unwrap_or (place_from at ss Meta) no_place;
}

-- The table's regions: index, filter, version and meta block follow the data blocks.
abbrev pub regions_said : TableVersion → Label → Options → Content → ParsedRegions
regions_said v label options c =
    let behind = index_part v options c
    ++ filter_part v options c
    ++ closing_sections v label options c in
    regions_laid (length (data_section v c.blocks)) behind

-- The handles of a partitioned filter's top level, for filter blocks that start at an offset.
abbrev pub filter_tops_said : FilterKind → ℕ → List (List (List ℕ)) → List BloomFilter
    → Option (List Handle)
filter_tops_said FullFilter at keys fs = None
filter_tops_said (PartitionedFilter size) at keys [] = None
filter_tops_said (PartitionedFilter size) at keys (f ∷ fs) =
    Some (tops_from at (filter_partitions keys (f ∷ fs)))

-- The pinned filter: a full one, if it is to be pinned.
abbrev pub filter_said : FilterKind → List BloomFilter → Bool → Option BloomFilter
filter_said FullFilter fs pin = if pin then first fs else None
filter_said (PartitionedFilter size) fs pin = None

abbrev pub pinned_said : TableVersion → Options → Content → Bool → Bool → Pinned
pinned_said v options c pin_filter pin_index =
    let at = length (data_section v c.blocks) in
    let behind = length (bytes_in (front_sections v options c)) in
    record {
      index = index_said options.index_kind v at (handles v c.blocks) c.index pin_index;
      filter_tops = filter_tops_said options.filter_kind behind c.keys c.filters;
      filter = filter_said options.filter_kind c.filters pin_filter;
    }

abbrev pub parts_said : {bytes : List ℕ} {es : List Entry} → IsTable bytes es → Bool → Bool → Parts
parts_said {bytes} {es} t pin_filter pin_index =
    let v = t.version in
    let c = (t.file).content in
    let cs = c.blocks in
    record {
      facts = facts_said v t.label es (length cs) (length c.index) (length (data_section v cs));
      regions = regions_said v t.label t.options c;
      pinned = pinned_said v t.options c pin_filter pin_index;
    }

-- These are the parts of the table of a list, for some choice of pinned blocks.
pub record SaysList {bytes : List ℕ} {es : List Entry} (t : IsTable bytes es) (parts : Parts)
    : Type 0 where
  pub pin_filter : Bool
  pub pin_index : Bool
  pub is : parts ≡ parts_said t pin_filter pin_index

-- The result of opening the table of a list: its parts, if its highest seqno fits with the global
-- one added.
abbrev pub list_result : {bytes : List ℕ} {es : List Entry} → IsTable bytes es → ℕ → Bool → Bool
    → Result Parts Error
list_result {bytes} {es} t g pin_filter pin_index =
    if nat_lt (2 ^ 64 - 1) (highest_seqno es + g) then Err GlobalSeqNoTooLarge
    else Ok (parts_said t pin_filter pin_index)

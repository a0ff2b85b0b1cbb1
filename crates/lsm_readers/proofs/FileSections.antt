-- The bytes of a table tell where its sections lie, and its index and its filter load from there.
use Rattle.std.proofs.Common.{◌≡◌, ℕ, ◌+◌, ◌^◌, ◌<◌, ◌==◌, false, List, [], ◌∷◌, ◌++◌, length, map}
use Rattle.std.proofs.Common.{refl, ap, ◌∙◌, append_assoc, length-append, arith}
use Rattle.std.specs.Prelude.{Option, Some, None, Ok, is_some, unwrap_or}
use Rattle.std.specs.List.{AllByRecursion}
use Rattle.std.specs.Option.{option_or}
use Rattle.std.proofs.lemmas.List.{append-nil}
use Rattle.sst_blocks.specs.declared.version.TableVersion.{TableVersion}
use Rattle.sst_blocks.specs.declared.section.Section.{Section}
use Rattle.sst_blocks.specs.declared.section.SectionName.{SectionName}
use Rattle.sst_blocks.specs.declared.section.SectionName.TheVariants.{Data, Index as IndexSection}
use Rattle.sst_blocks.specs.declared.section.SectionName.TheVariants.{Tli}
use Rattle.sst_blocks.specs.declared.section.SectionName.TheVariants.{Filter as FilterSection}
use Rattle.sst_blocks.specs.declared.section.SectionName.TheVariants.{FilterTli}
use Rattle.sst_blocks.specs.declared.section.SectionName.TheVariants.{Meta as MetaSection}
use Rattle.sst_blocks.specs.Sections.{AreAscending, Written, body_of, finished, section_in}
use Rattle.sst_blocks.specs.Sections.{section_names, section_of, slot_index}
use Rattle.sst_blocks.proofs.SectionLaws.{finished_body, finished_section}
use Rattle.sst_entries.specs.Entry.{Entry}
use Rattle.sst_entries.proofs.Lists.{all_append}
use Rattle.sst_blocks.specs.declared.block_type.BlockType.TheVariants.{Meta}
use Rattle.sst_blocks.specs.Block.{block_bytes, load_result}
use Rattle.sst_blocks.specs.Payload.{payload}
use Rattle.sst_blocks.specs.Place.{Place}
use Rattle.sst_blocks.specs.Reading.{entries_in}
use Rattle.sst_blocks.proofs.BlockLaws.{written_loads}
use Rattle.sst_blocks.proofs.BlockLengths.{length-block}
use Rattle.sst_blocks.specs.declared.table.options.FilterKind.{FilterKind}
use Rattle.sst_blocks.specs.declared.table.options.FilterKind.TheVariants.{Full as FullFilter}
use Rattle.sst_blocks.specs.declared.table.options.FilterKind.TheVariants.{
  Partitioned as PartitionedFilter,
}
use Rattle.sst_blocks.specs.declared.table.label.Label.{Label}
use Rattle.sst_blocks.specs.declared.table.options.Options.{Options}
use Rattle.sst_blocks.specs.table.Content.{Content}
use Rattle.sst_blocks.specs.table.File.{closing_sections, counted_blocks, filter_part, index_part}
use Rattle.sst_blocks.specs.table.File.{sections_of}
use Rattle.sst_blocks.specs.table.Fits.{SectionFits}
use Rattle.sst_blocks.specs.table.Index.{data_section, handles}
use Rattle.sst_blocks.specs.table.Kinds.{filter_sections}
use Rattle.sst_blocks.specs.table.Layout.{Sections, bytes_in, laid}
use Rattle.sst_blocks.specs.table.MetaBlock.{meta_entries, version_number}
use Rattle.sst_blocks.specs.filter.Filter.{BloomFilter}
use Rattle.lsm_readers.specs.declared.regions.ParsedRegions.{ParsedRegions}
use Rattle.lsm_readers.specs.point.Meta.{facts_result, meta_result}
use Rattle.lsm_readers.specs.OfList.{no_place, place_from, regions_laid, regions_said}
use Rattle.lsm_readers.specs.point.Regions.{regions_result, section_named}
use Rattle.lsm_readers.proofs.FileIndexKinds.{index_none, top_lies, top_place}
use Rattle.lsm_readers.proofs.FileRegions.{bytes_append, laid_ascending, needed_by, place_append}
use Rattle.lsm_readers.proofs.FileRegions.{section_from, section_result, sections_laid}

-- ---- what the table of contents tells

regions_from : (toc : List (Option Section)) (at : ℕ) (ss : Sections) (t m : Place)
    → section_named toc FilterTli ≡ section_from at ss FilterTli
    → section_named toc Tli ≡ section_from at ss Tli
    → section_named toc IndexSection ≡ section_from at ss IndexSection
    → section_named toc FilterSection ≡ section_from at ss FilterSection
    → section_named toc MetaSection ≡ section_from at ss MetaSection → AllByRecursion SectionFits ss
    → place_from at ss Tli ≡ Some t → place_from at ss MetaSection ≡ Some m
    → regions_result toc ≡ Ok (regions_laid at ss)
unfolding regions_result
regions_from toc at ss t m ft tli i f meta fits top closing =
    let ft_result = section_result at ss FilterTli fits in
    let i_result = section_result at ss IndexSection fits in
    let f_result = section_result at ss FilterSection fits in
    let tli_result = needed_by (section_from at ss Tli) t
    (section_result at ss Tli fits ∙ ap (λ (o : Option Place). Ok o) top) in
    let meta_is_result = needed_by (section_from at ss MetaSection) m
    (section_result at ss MetaSection fits ∙ ap (λ (o : Option Place). Ok o) closing) in
    rw (ft, tli, i, f, meta, ft_result, tli_result, i_result, f_result, meta_is_result, top, closing) refl

-- ---- the sections of each kind

filter_none : (k : FilterKind) (v : TableVersion) (at : ℕ) (keys : List (List (List ℕ)))
    (fs : List BloomFilter) (n : ℕ) → (place_from n (filter_sections k v at keys fs) IndexSection
    ≡ None) × (place_from n (filter_sections k v at keys fs) MetaSection ≡ None)
filter_none FullFilter v at keys [] n = (refl, refl)
filter_none FullFilter v at keys (f ∷ fs) n = (refl, refl)
filter_none (PartitionedFilter size) v at keys [] n = (refl, refl)
filter_none (PartitionedFilter size) v at keys (f ∷ fs) n = (refl, refl)

or_none : {X : Type 0} (o : Option X) → option_or o None ≡ o
or_none None = refl
or_none (Some x) = refl

module _ (v : TableVersion) (label : Label) (options : Options) (c : Content) where
  abbrev pub data_len : ℕ
  data_len = length (data_section v c.blocks)

  abbrev pub the_index : Sections
  the_index = index_part v options c

  abbrev pub the_filter : Sections
  the_filter = filter_part v options c

  abbrev pub the_items : List Entry
  the_items = meta_entries v label options c.blocks (counted_blocks options c)

  abbrev pub the_meta : List ℕ
  the_meta = block_bytes v Meta (payload v the_items)

  abbrev pub the_end : Sections
  the_end = closing_sections v label options c

  -- the sections behind the data blocks
  abbrev pub the_rest : Sections
  the_rest = the_index ++ the_filter ++ the_end

  abbrev pub written : Written
  written = laid (sections_of v label options c)

  abbrev pub the_regions : ParsedRegions
  the_regions = regions_said v label options c

  -- ---- the bytes

  pub ascending : AreAscending (length written.bytes) written.started
  ascending = laid_ascending 0 (length written.bytes) (sections_of v label options c) (omega arith)

  rest_is : bytes_in the_rest ≡ (bytes_in the_index ++ bytes_in the_filter) ++ bytes_in the_end
  rest_is = bytes_append (the_index ++ the_filter) the_end
      ∙ ap (λ (bs : List ℕ). bs ++ bytes_in the_end) (bytes_append the_index the_filter)

  -- the data blocks, the index, and what stands behind it
  pub body_is : body_of (finished written) ≡ data_section v c.blocks
      ++ (bytes_in the_index ++ (bytes_in the_filter ++ bytes_in the_end))
  body_is = finished_body written ∙ ap (λ (bs : List ℕ). data_section v c.blocks ++ bs)
      (rest_is ∙ append_assoc (bytes_in the_index) (bytes_in the_filter) (bytes_in the_end))

  -- ---- where the sections lie

  named : (name : SectionName) → (slot_index Data == slot_index name) ≡ false
      → section_of (length written.bytes) written.started name ≡ section_from data_len the_rest name
  named name other =
      let start : 0 + data_len ≡ data_len = omega arith in
      sections_laid 0 (length written.bytes) (sections_of v label options c) name (omega arith)
      ∙ rw other (ap (λ (n : ℕ). section_from n the_rest name) start)

  pub top_at : place_from data_len the_rest Tli
      ≡ Some (top_place options.index_kind v data_len (handles v c.blocks) c.index)
  top_at =
      let here = top_lies options.index_kind v data_len (handles v c.blocks) c.index in
      let front : place_from data_len (the_index ++ the_filter) Tli
      ≡ Some (top_place options.index_kind v data_len (handles v c.blocks) c.index) =
      place_append data_len the_index the_filter Tli
      ∙ ap (λ (o : Option Place). option_or o (place_from
      (data_len + length (bytes_in the_index)) the_filter Tli)) here in
      place_append data_len (the_index ++ the_filter) the_end Tli
      ∙ ap (λ (o : Option Place). option_or o (place_from
      (data_len + length (bytes_in (the_index ++ the_filter))) the_end Tli)) front

  abbrev pub meta_place : Place
  meta_place = record {
    offset = data_len + length (bytes_in (the_index ++ the_filter)) + 1;
    size =
        length the_meta;
  }

  pub meta_at : place_from data_len the_rest MetaSection ≡ Some meta_place
  meta_at =
      let none = index_none options.index_kind v data_len (handles v c.blocks) c.index data_len in
      let no_more = filter_none options.filter_kind v _ c.keys c.filters
      (data_len + length (bytes_in the_index)) in
      let front : place_from data_len (the_index ++ the_filter) MetaSection ≡ None =
      place_append data_len the_index the_filter MetaSection
      ∙ ap (λ (o : Option Place). option_or o (place_from
      (data_len + length (bytes_in the_index)) the_filter MetaSection)) none.2 ∙ no_more.1 in
      place_append data_len (the_index ++ the_filter) the_end MetaSection
      ∙ ap (λ (o : Option Place). option_or o (place_from
      (data_len + length (bytes_in (the_index ++ the_filter))) the_end MetaSection)) front

  -- where the filter lies, and whether the index has partitions
  pub filter_at : place_from data_len the_rest FilterSection
      ≡ place_from (data_len + length (bytes_in the_index)) the_filter FilterSection
  filter_at =
      let none = index_none options.index_kind v data_len (handles v c.blocks) c.index data_len in
      place_append data_len (the_index ++ the_filter) the_end FilterSection
      ∙ or_none (place_from data_len (the_index ++ the_filter) FilterSection)
      ∙ place_append data_len the_index the_filter FilterSection ∙ rw (none.0) refl

  pub filter_top_at : place_from data_len the_rest FilterTli
      ≡ place_from (data_len + length (bytes_in the_index)) the_filter FilterTli
  filter_top_at =
      let none = index_none options.index_kind v data_len (handles v c.blocks) c.index data_len in
      place_append data_len (the_index ++ the_filter) the_end FilterTli
      ∙ or_none (place_from data_len (the_index ++ the_filter) FilterTli)
      ∙ place_append data_len the_index the_filter FilterTli ∙ rw (none.1) refl

  pub index_at : place_from data_len the_rest IndexSection
      ≡ place_from data_len the_index IndexSection
  index_at =
      let none = filter_none options.filter_kind v _ c.keys c.filters
      (data_len + length (bytes_in the_index)) in
      place_append data_len (the_index ++ the_filter) the_end IndexSection
      ∙ or_none (place_from data_len (the_index ++ the_filter) IndexSection)
      ∙ place_append data_len the_index the_filter IndexSection
      ∙ ap (option_or (place_from data_len the_index IndexSection)) (none.0)
      ∙ or_none (place_from data_len the_index IndexSection)

  -- ---- what the trailer tells

  rest_fits : AllByRecursion SectionFits the_index → AllByRecursion SectionFits the_filter
      → length the_meta < 2 ^ 32 → AllByRecursion SectionFits the_rest
  rest_fits index filter short =
      let last : AllByRecursion SectionFits the_end =
      (record { short = omega arith }, (record { short = short }, tt)) in
      all_append SectionFits (the_index ++ the_filter) the_end
      (all_append SectionFits the_index the_filter index filter) last

  pub regions_read : length written.bytes < 2 ^ 64 → AllByRecursion SectionFits the_index
      → AllByRecursion SectionFits the_filter → length the_meta < 2 ^ 32
      → regions_result (map (section_in (finished written)) section_names) ≡ Ok the_regions
  regions_read small index filter short =
      let in_w = λ (name : SectionName) (other : (slot_index Data == slot_index name) ≡ false).
      finished_section written name small ascending ∙ named name other in
      regions_from (map (section_in (finished written)) section_names) data_len the_rest
      (top_place options.index_kind v data_len (handles v c.blocks) c.index) meta_place
      (in_w FilterTli refl) (in_w Tli refl) (in_w IndexSection refl) (in_w FilterSection refl)
      (in_w MetaSection refl) (rest_fits index filter short) top_at meta_at

  -- ---- the meta block

  pub metadata_is : the_regions.metadata ≡ meta_place
  metadata_is = ap (λ (o : Option Place). unwrap_or o no_place) meta_at

  meta_loads : length (payload v the_items) < 2 ^ 32
      → entries_in v (payload v the_items) ≡ Some the_items
      → load_result (body_of (finished written)) meta_place.offset meta_place.size Meta
      ≡ Ok (record { version = v; kind = Meta; payload = payload v the_items })
  meta_loads short reads =
      let m = payload v the_items in
      let mid = bytes_in the_index ++ bytes_in the_filter in
      let one = version_number v ∷ [] in
      let pre = (data_section v c.blocks ++ mid) ++ one in
      let cut : length (bytes_in (the_index ++ the_filter)) ≡ length mid =
      ap length (bytes_append the_index the_filter) in
      let at : data_len + length (bytes_in (the_index ++ the_filter)) + 1 ≡ length pre =
      omega (
        arith,
        cut,
        length-append (data_section v c.blocks ++ mid) one,
        length-append
            (data_section v c.blocks) mid,
      ) in
      let whole : body_of (finished written) ≡ pre ++ the_meta ++ [] = body_is
      ∙ simp (append_assoc, append-nil) in
      ap (λ (n : ℕ). load_result (body_of (finished written)) meta_place.offset n Meta)
      (length-block v Meta m)
      ∙ written_loads v Meta pre m [] (body_of (finished written)) meta_place.offset short
      (ap is_some reads) at whole

  pub meta_items_read : length (payload v the_items) < 2 ^ 32
      → entries_in v (payload v the_items) ≡ Some the_items
      → meta_result (body_of (finished written)) the_regions.metadata ≡ facts_result the_items
  meta_items_read short reads = rw (metadata_is, meta_loads short reads, reads) refl

-- What the bytes of a table of a list are recovered to.
use Rattle.std.proofs.Common.{◌≡◌, ℕ, ◌+◌, ◌-◌, ◌^◌, ◌<◌, Bool, cond, ltb, List, ◌++◌, length, refl}
use Rattle.std.proofs.Common.{sym, ap, subst, ◌∙◌, append_assoc, length-append, arith, inl, inr}
use Rattle.std.specs.Prelude.{Option, None, Ok, Err, map, unwrap_or}
use Rattle.std.specs.List.{AllByRecursion}
use Rattle.std.proofs.lemmas.Bool.{cases_Bool}
use Rattle.sst_blocks.specs.declared.section.SectionName.TheVariants.{Filter as FilterSection}
use Rattle.sst_blocks.specs.declared.section.SectionName.TheVariants.{FilterTli}
use Rattle.sst_blocks.specs.declared.version.TableVersion.{TableVersion}
use Rattle.sst_blocks.specs.Sections.{body_of, finished, trailer_fault}
use Rattle.sst_blocks.proofs.SectionLaws.{finished_fine}
use Rattle.sst_entries.specs.declared.error.Error.TheVariants.{GlobalSeqNoTooLarge}
use Rattle.sst_entries.specs.Entry.{Entry}
use Rattle.sst_entries.specs.Strict.{IsStrict}
use Rattle.sst_blocks.specs.Place.{Place}
use Rattle.sst_blocks.specs.table.Chunks.{joined}
use Rattle.sst_blocks.specs.table.Content.{Content}
use Rattle.sst_blocks.specs.table.Facts.{highest_seqno}
use Rattle.sst_blocks.specs.table.File.{IsContent, counted_blocks, front_sections}
use Rattle.sst_blocks.specs.table.Filters.{keys_of}
use Rattle.sst_blocks.specs.table.Fits.{Fits}
use Rattle.sst_blocks.specs.table.Index.{data_section, handles}
use Rattle.sst_blocks.specs.table.Layout.{bytes_in}
use Rattle.sst_blocks.specs.table.Table.{IsTable}
use Rattle.sst_blocks.specs.declared.table.label.Label.{Label}
use Rattle.sst_blocks.specs.declared.table.options.Options.{Options}
use Rattle.sst_blocks.proofs.KeyLaws.{key_end, keys_strict}
use Rattle.lsm_readers.specs.declared.regions.ParsedRegions.{ParsedRegions}
use Rattle.lsm_readers.specs.point.Meta.{Facts, facts_said, facts_result, meta_result}
use Rattle.lsm_readers.specs.OfList.{filter_said, filter_tops_said, list_result, no_place, parts_said}
use Rattle.lsm_readers.specs.OfList.{pinned_said, place_from, regions_said}
use Rattle.lsm_readers.specs.point.IndexKinds.{index_said, index_result}
use Rattle.lsm_readers.specs.point.Parts.{Parts, Pinned, filter_result, parts_result, pinned_filter}
use Rattle.lsm_readers.specs.point.Parts.{pinned_result, places_result, recovered_result, tops_result}
use Rattle.lsm_readers.proofs.FileContent.{body_short, entries_fit, facts_fit, filter_within}
use Rattle.lsm_readers.proofs.FileContent.{first_short, handles_fit, handles_line, index_within}
use Rattle.lsm_readers.proofs.FileContent.{last_short, longest_below, meta_block_short, meta_short}
use Rattle.lsm_readers.proofs.FileContent.{whole}
use Rattle.lsm_readers.proofs.FileFilters.{KeyFits, keys_fit}
use Rattle.lsm_readers.proofs.FileFilterKinds.{filter_here, tops_here}
use Rattle.lsm_readers.proofs.FileIndexKinds.{index_here, top_place}
use Rattle.lsm_readers.proofs.FileSections.{ascending, body_is, data_len, filter_at, filter_top_at}
use Rattle.lsm_readers.proofs.FileSections.{index_at, meta_items_read, regions_read, the_end}
use Rattle.lsm_readers.proofs.FileSections.{the_filter, the_index, the_items, top_at, written}
use Rattle.lsm_readers.proofs.MetaBlocks.{meta_reads}
use Rattle.lsm_readers.proofs.MetaReads.{facts_read, interval_read, written_facts}
use Rattle.lsm_readers.proofs.Recovered.{Steps, ok_same, steps}

abbrev pub written_parts : TableVersion → Label → Options → Content → Bool → Bool → Parts
written_parts v label options c pin_filter pin_index =
    record {
      facts = written_facts v label c.blocks (counted_blocks options c);
      regions =
          regions_said v label options c;
      pinned = pinned_said v options c pin_filter pin_index;
    }

parts_eta : (p q : Parts) → p.facts ≡ q.facts → p.regions ≡ q.regions → p.pinned ≡ q.pinned → p ≡ q
parts_eta p q f r i =
    let made : Facts → ParsedRegions → Pinned → Parts =
    λ f r i. record { facts = f; regions = r; pinned = i } in
    ap (λ (x : Facts). made x p.regions p.pinned) f
    ∙ ap (λ (x : ParsedRegions). made q.facts x p.pinned) r
    ∙ ap (λ (x : Pinned). made q.facts q.regions x) i

module _ (v : TableVersion) (label : Label) (options : Options) (spills : List ℕ) (es : List Entry)
    (c : Content) (is : IsContent v options spills es c) (fits : Fits v label options c)
    (strict : IsStrict es)
    (short : length (finished (written v label options c)) < 2 ^ 63) where
  abbrev pub the_bytes : List ℕ
  the_bytes = finished (written v label options c)

  abbrev pub the_body : List ℕ
  the_body = body_of the_bytes

  abbrev regions : ParsedRegions
  regions = regions_said v label options c

  -- ---- what stands before the index and before the filter, and behind them

  abbrev pub before_filter : List ℕ
  before_filter = data_section v c.blocks ++ bytes_in (the_index v label options c)

  abbrev pub behind_filter : List ℕ
  behind_filter = bytes_in (the_end v label options c)

  abbrev pub behind_index : List ℕ
  behind_index = bytes_in (the_filter v label options c) ++ behind_filter

  pub filter_lies : the_body ≡ before_filter ++ (bytes_in (the_filter v label options c)
      ++ behind_filter)
  filter_lies = body_is v label options c ∙ sym
      (append_assoc (data_section v c.blocks) (bytes_in (the_index v label options c)) behind_index)

  -- the filter begins behind the front sections
  abbrev pub filter_start : ℕ
  filter_start = length (bytes_in (front_sections v options c))

  filter_from : data_len v label options c + length (bytes_in (the_index v label options c))
      ≡ filter_start
  filter_from = sym (length-append (data_section v c.blocks)
      (bytes_in (the_index v label options c)))

  pub filter_place : regions.filter ≡ place_from filter_start
      (the_filter v label options c) FilterSection
  filter_place = filter_at v label options c ∙ ap
      (λ (n : ℕ). place_from n (the_filter v label options c) FilterSection) filter_from

  pub filter_top_place : regions.filter_tli ≡ place_from filter_start
      (the_filter v label options c) FilterTli
  filter_top_place = filter_top_at v label options c
      ∙ ap (λ (n : ℕ). place_from n (the_filter v label options c) FilterTli) filter_from

  pub tli_place : regions.tli ≡ top_place options.index_kind v (length (data_section v c.blocks))
      (handles v c.blocks) c.index
  tli_place = ap (λ (o : Option Place). unwrap_or o no_place) (top_at v label options c)

  pub keys_line : IsStrict (map key_end (keys_of es))
  keys_line = keys_strict es strict

  pub keys_short : AllByRecursion (KeyFits v) (keys_of es)
  keys_short = keys_fit v None es (entries_fit v label options spills es c is fits strict short)

  -- ---- what is told

  pub trailer_here : trailer_fault the_bytes ≡ None
  trailer_here =
      let small = body_short v label options spills es c is fits strict short in
      finished_fine (written v label options c) (omega (arith, small))
      (ascending v label options c)

  pub regions_here : places_result the_bytes ≡ Ok regions
  regions_here = regions_read v label options c
      (let small = body_short v label options spills es c is fits strict short in
      omega (arith, small)) fits.index fits.filter
      (meta_block_short v label options spills es c is fits strict short)

  items_here : meta_result the_body regions.metadata ≡ facts_result (the_items v label options c)
  items_here =
      let key = longest_below v in
      let small = meta_short v label options spills es c is fits strict short in
      let first = first_short v (joined c.blocks) fits.entries in
      let last = last_short v (joined c.blocks) fits.entries in
      meta_items_read v label options c (omega (arith, small))
      (meta_reads v label options c.blocks (counted_blocks options c)
      (omega (arith, first, key)) (omega (arith, last, key)))

  pub facts_here : options.index_block_restart_interval ≡ 1
      → meta_result the_body regions.metadata ≡ Ok (written_facts v label c.blocks
      (counted_blocks options c))
  facts_here one = items_here ∙ facts_read v label options c.blocks (counted_blocks options c)
      (facts_fit v label options spills es c is fits strict short one)

  index_reported_here : (pin : Bool) → index_result the_body regions pin
      ≡ Ok (index_said options.index_kind v (length (data_section v c.blocks))
      (handles v c.blocks) c.index pin)
  index_reported_here pin =
      index_here v (length (data_section v c.blocks)) (handles v c.blocks) c.index
      (handles_line v label options spills es c is fits strict short)
      (handles_fit v label options spills es c is fits strict short)
      (data_section v c.blocks) behind_index the_body refl options.index_kind regions pin is.index
      fits.index (index_within v label options spills es c is fits strict short)
      (body_is v label options c) (index_at v label options c) tli_place

  pub tops_reported_here : tops_result the_body regions.filter_tli
      ≡ Ok (filter_tops_said options.filter_kind filter_start c.keys c.filters)
  tops_reported_here =
      let room = filter_within v label options spills es c is fits strict short in
      tops_here v options.bloom_policy es filter_start before_filter behind_filter the_body refl
      keys_line keys_short options.filter_kind c.keys c.filters regions is.keys is.filters
      fits.filter (omega (arith, room, filter_from)) filter_lies filter_top_place

  filter_reported_here : (pin : Bool) → filter_result the_body (pinned_filter regions pin)
      ≡ Ok (filter_said options.filter_kind c.filters pin)
  filter_reported_here pin =
      filter_here v options.bloom_policy es filter_start before_filter behind_filter the_body refl
      keys_line keys_short options.filter_kind c.keys c.filters regions pin is.keys is.filters
      fits.filter filter_lies filter_top_place filter_place

  pinned_here : (pin_filter pin_index : Bool) → pinned_result the_body regions pin_filter pin_index
      ≡ Ok (pinned_said v options c pin_filter pin_index)
  unfolding pinned_result
  pinned_here pin_filter pin_index = rw (
    index_reported_here pin_index,
    tops_reported_here,
    filter_reported_here
        pin_filter,
  ) refl

  -- the table is recovered where the global number fits
  pub written_recovers : (g : ℕ) (pin_filter pin_index : Bool)
      → options.index_block_restart_interval ≡ 1 → recovered_result the_bytes g pin_filter pin_index
      ≡ cond (ltb (2 ^ 64 - 1) (highest_seqno (joined c.blocks) + g)) (Err GlobalSeqNoTooLarge)
      (Ok (written_parts v label options c pin_filter pin_index))
  unfolding parts_result
  written_recovers g pin_filter pin_index one =
      elim (cases_Bool (ltb (2 ^ 64 - 1) (highest_seqno (joined c.blocks) + g))) [
        | inl large ↦ rw (trailer_here, regions_here, facts_here one, large) refl
        | inr below ↦ rw (
          trailer_here,
          regions_here,
          facts_here one,
          below,
          pinned_here pin_filter
              pin_index,
        ) refl
      ]

  module _ (g : ℕ) (pin_filter pin_index : Bool) (parts : Parts)
      (returned : recovered_result (finished (written v label options c)) g pin_filter pin_index
      ≡ Ok parts) where
    the_steps : Steps the_bytes g pin_filter pin_index parts
    the_steps = steps the_bytes g pin_filter pin_index parts returned

    regions_are : parts.regions ≡ regions
    regions_are = ok_same (places_result the_bytes) parts.regions regions
        (the_steps.regions) regions_here

    items_result : meta_result the_body regions.metadata ≡ Ok parts.facts
    items_result = ap (λ (r : ParsedRegions). meta_result the_body r.metadata) (sym regions_are)
        ∙ the_steps.facts

    pub interval_is : options.index_block_restart_interval ≡ 1
    interval_is = interval_read v label options c.blocks (counted_blocks options c) parts.facts
        (sym items_here ∙ items_result)

    pub facts_are : parts.facts ≡ written_facts v label c.blocks (counted_blocks options c)
    facts_are = ok_same (meta_result the_body regions.metadata) parts.facts
        (written_facts v label c.blocks (counted_blocks options c)) items_result
        (facts_here interval_is)

    pinned_is : parts.pinned ≡ pinned_said v options c pin_filter pin_index
    pinned_is =
        let e = ap (λ (r : ParsedRegions). pinned_result the_body r pin_filter pin_index)
        regions_are in
        ok_same (pinned_result the_body parts.regions pin_filter pin_index) parts.pinned
        (pinned_said v options c pin_filter pin_index) (the_steps.pinned)
        (e ∙ pinned_here pin_filter pin_index)

    pub parts_are : parts ≡ written_parts v label options c pin_filter pin_index
    parts_are = parts_eta parts (written_parts v label options c pin_filter pin_index) facts_are
        regions_are pinned_is

-- ---- a table of a list

abbrev parts_by : TableVersion → Label → Options → Content → Bool → Bool → List Entry → Parts
parts_by v label options c pin_filter pin_index es =
    record {
      facts = facts_said v label es (length c.blocks) (length c.index)
          (length (data_section v c.blocks));
      regions = regions_said v label options c;
      pinned =
          pinned_said v options c pin_filter pin_index;
    }

module _ (stored : List ℕ) (es : List Entry) (t : IsTable stored es)
    (short : length stored < 2 ^ 63) where
  abbrev c : Content
  c = (t.file).content

  pub short_file : length (finished (written t.version t.label t.options c)) < 2 ^ 63
  short_file = subst (λ (b : List ℕ). length b < 2 ^ 63) t.file.are short

  list_whole : joined c.blocks ≡ es
  list_whole = whole t.version t.label t.options t.spills es c t.file.is t.fits t.strict short_file

  by_list : (pin_filter pin_index : Bool) → written_parts t.version t.label t.options c pin_filter
      pin_index ≡ parts_said t pin_filter pin_index
  by_list pin_filter pin_index = ap (parts_by t.version t.label t.options c pin_filter pin_index)
      list_whole

  pub reported_file : (g : ℕ) (pin_filter pin_index : Bool) (parts : Parts)
      → recovered_result stored g pin_filter pin_index ≡ Ok parts
      → recovered_result (finished (written t.version t.label t.options c)) g pin_filter pin_index
      ≡ Ok parts
  reported_file g pin_filter pin_index parts returned =
      subst (λ (b : List ℕ). recovered_result b g pin_filter pin_index ≡ Ok parts) t.file.are returned

  -- what is recovered is what the list says
  pub table_parts : (g : ℕ) (pin_filter pin_index : Bool) (parts : Parts)
      → recovered_result stored g pin_filter pin_index ≡ Ok parts
      → parts ≡ parts_said t pin_filter pin_index
  table_parts g pin_filter pin_index parts returned =
      parts_are t.version t.label t.options t.spills es c t.file.is t.fits t.strict short_file g
      pin_filter pin_index parts (reported_file g pin_filter pin_index parts returned)
      ∙ by_list pin_filter pin_index

  -- what opening it tells
  pub table_result : (g : ℕ) (pin_filter pin_index : Bool)
      → t.options.index_block_restart_interval ≡ 1
      → recovered_result stored g pin_filter pin_index ≡ list_result t g pin_filter pin_index
  table_result g pin_filter pin_index one =
      ap (λ (b : List ℕ). recovered_result b g pin_filter pin_index) t.file.are
      ∙ written_recovers t.version t.label t.options t.spills es c t.file.is t.fits t.strict
      short_file g pin_filter pin_index one
      ∙ ap (λ (xs : List Entry). cond (ltb (2 ^ 64 - 1) (highest_seqno xs + g))
      (Err GlobalSeqNoTooLarge) (Ok (parts_by t.version t.label t.options c pin_filter pin_index
      xs))) list_whole

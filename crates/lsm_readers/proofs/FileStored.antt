-- A table of a list, as writers make it, stores the list.
use Rattle.std.proofs.Common.{◌≡◌, ℕ, ◌-◌, ◌^◌, ◌<◌, Bool, true, false, List, [], ◌++◌, length}
use Rattle.std.proofs.Common.{refl, sym, ap, subst, ◌∙◌, arith}
use Rattle.std.specs.Prelude.{Option, None, Result, Ok}
use Rattle.std.specs.List.{AllZip}
use Rattle.sst_blocks.specs.declared.version.TableVersion.{TableVersion}
use Rattle.sst_blocks.specs.Sections.{finished}
use Rattle.sst_blocks.specs.filter.Filter.{BloomFilter}
use Rattle.sst_blocks.specs.filter.KeyHash.{hash_of}
use Rattle.sst_entries.specs.declared.error.Error.{Error}
use Rattle.sst_entries.specs.Entry.{Entry}
use Rattle.sst_entries.specs.Strict.{IsStrict}
use Rattle.sst_entries.proofs.Booleans.{apart}
use Rattle.sst_entries.proofs.Lists.{all_more}
use Rattle.sst_blocks.specs.Handle.{Handle}
use Rattle.sst_blocks.proofs.FactLaws.{length-handles}
use Rattle.sst_blocks.specs.table.Chunks.{joined}
use Rattle.sst_blocks.specs.table.Content.{Content}
use Rattle.sst_blocks.specs.table.File.{IsContent, counted_blocks}
use Rattle.sst_blocks.specs.table.Filters.{keys_of}
use Rattle.sst_blocks.specs.table.Fits.{EntryFits, Fits}
use Rattle.sst_blocks.specs.table.Index.{data_section, handles}
use Rattle.sst_blocks.specs.table.Layout.{bytes_in}
use Rattle.sst_blocks.specs.table.Table.{IsTable}
use Rattle.sst_blocks.specs.declared.table.label.Label.{Label}
use Rattle.sst_blocks.specs.declared.table.options.FilterKind.{FilterKind}
use Rattle.sst_blocks.specs.declared.table.options.FilterKind.TheVariants.{Full as FullFilter}
use Rattle.sst_blocks.specs.declared.table.options.FilterKind.TheVariants.{
  Partitioned as PartitionedFilter,
}
use Rattle.sst_blocks.specs.declared.table.options.Options.{Options}
use Rattle.lsm_readers.specs.declared.regions.ParsedRegions.{ParsedRegions}
use Rattle.lsm_readers.specs.point.Answer.{filter_admits}
use Rattle.lsm_readers.specs.BlockIndexes.{StoresItsBlocks}
use Rattle.lsm_readers.specs.OfList.{filter_said, filter_tops_said, regions_said}
use Rattle.lsm_readers.specs.Stored.{Admits, Matches, FilterHas, IndexHas, NamesChunk, StoresList}
use Rattle.lsm_readers.specs.point.Table.{IsOpen, OpenTable}
use Rattle.lsm_readers.proofs.FileChunks.{all_read, chunk_sizes, chunks_laid, chunks_named}
use Rattle.lsm_readers.proofs.FileChunks.{empty_refused}
use Rattle.lsm_readers.proofs.FileContent.{all_some, entries_fit, handles_fit, handles_line}
use Rattle.lsm_readers.proofs.FileContent.{index_within, line, whole}
use Rattle.lsm_readers.proofs.FileFilterKinds.{filter_answers, filters_load}
use Rattle.lsm_readers.proofs.FileFilters.{Asked}
use Rattle.lsm_readers.proofs.FileIndexKinds.{index_has}
use Rattle.lsm_readers.proofs.FileParts.{before_filter, behind_filter, behind_index, facts_here}
use Rattle.lsm_readers.proofs.FileParts.{filter_lies, filter_place, filter_start, interval_is}
use Rattle.lsm_readers.proofs.FileParts.{keys_line, keys_short, regions_here, short_file, the_body}
use Rattle.lsm_readers.proofs.FileParts.{the_bytes, tli_place, reported_file, tops_reported_here}
use Rattle.lsm_readers.proofs.FileParts.{trailer_here}
use Rattle.lsm_readers.proofs.FileSections.{body_is, index_at, the_index, written}
use Rattle.lsm_readers.proofs.FilterReads.{has_key}
use Rattle.lsm_readers.proofs.MetaReads.{written_facts}
use Rattle.lsm_readers.proofs.StoredFilters.{all_keys}

is_true : (b : Bool) → (b ≡ false → ⊥) → b ≡ true
is_true true h = refl
is_true false h = absurd (h refl)

-- a key that is one of some keys is admitted
admitted : (returned : Result Bool Error) (keys : List (List ℕ)) (key : List ℕ) → Asked returned keys key
    → has_key key keys ≡ true → returned ≡ Ok true
admitted returned keys key a has = a.reported_is ∙ ap (λ (b : Bool). Ok b)
    (is_true a.answer (λ denied. apart (has_key key keys) has (a.no denied)))

-- a filter that is not to stay loaded does not
unpinned : (k : FilterKind) (fs : List BloomFilter) → filter_said k fs false ≡ None
unpinned FullFilter fs = refl
unpinned (PartitionedFilter size) fs = refl

module _ (v : TableVersion) (label : Label) (options : Options) (spills : List ℕ) (es : List Entry)
    (c : Content) (is : IsContent v options spills es c) (fits : Fits v label options c)
    (strict : IsStrict es)
    (short : length (finished (written v label options c)) < 2 ^ 63) where
  abbrev bytes : List ℕ
  bytes = the_bytes v label options spills es c is fits strict short

  abbrev body : List ℕ
  body = the_body v label options spills es c is fits strict short

  abbrev regions : ParsedRegions
  regions = regions_said v label options c

  abbrev hs : List Handle
  hs = handles v c.blocks

  chunks : joined c.blocks ≡ es
  chunks = whole v label options spills es c is fits strict short

  named : AllZip (NamesChunk body) hs c.blocks
  named =
      let others = bytes_in (the_index v label options c)
      ++ behind_index v label options spills es c is fits strict short in
      let reads = all_read v None c.blocks
      (line v label options spills es c is fits strict short) fits.entries fits.blocks in
      chunks_named v c.blocks [] others body 0
      (all_some v label options spills es c is fits strict short) reads refl
      (body_is v label options c)

  index : IndexHas body regions.index regions.tli hs
  index =
      index_has v (length (data_section v c.blocks)) hs c.index
      (handles_line v label options spills es c is fits strict short)
      (handles_fit v label options spills es c is fits strict short)
      (data_section v c.blocks) (behind_index v label options spills es c is fits strict short)
      body refl options.index_kind regions is.index fits.index
      (index_within v label options spills es c is fits strict short)
      (body_is v label options c) (index_at v label options c)
      (tli_place v label options spills es c is fits strict short)

  abbrev tops : Option (List Handle)
  tops = filter_tops_said options.filter_kind
      (filter_start v label options spills es c is fits strict short) c.keys c.filters

  asked : (key : List ℕ) → Asked (filter_admits body tops None regions.filter key
      (hash_of key)).returned (keys_of es) key
  asked key =
      subst (λ (f : Option BloomFilter). Asked (filter_admits body tops f regions.filter key
      (hash_of key)).returned (keys_of es) key) (unpinned options.filter_kind c.filters)
      (filter_answers v options.bloom_policy es (filter_start v label options spills es c is fits
      strict short) (before_filter v label options spills es c is fits strict short)
      (behind_filter v label options spills es c is fits strict short) body refl
      (keys_line v label options spills es c is fits strict short)
      (keys_short v label options spills es c is fits strict short) options.filter_kind
      c.keys c.filters regions.filter false is.keys is.filters fits.filter
      (filter_lies v label options spills es c is fits strict short)
      (filter_place v label options spills es c is fits strict short) key)

  filter : FilterHas body regions.filter_tli regions.filter (keys_of es)
  filter = record {
    tops = tops;
    returned = tops_reported_here v label options spills es c is fits strict short;
    loads = filters_load v options.bloom_policy es (filter_start v label options spills es c is fits
        strict short) (before_filter v label options spills es c is fits strict short)
        (behind_filter v label options spills es c is fits strict short) body refl
        (keys_line v label options spills es c is fits strict short)
        (keys_short v label options spills es c is fits strict short) options.filter_kind
        c.keys c.filters regions.filter is.keys is.filters fits.filter
        (filter_lies v label options spills es c is fits strict short)
        (filter_place v label options spills es c is fits strict short);
    admits = all_keys (Admits body tops regions.filter) (keys_of es) (keys_of es)
        (λ key has. admitted (filter_admits body tops None regions.filter key (hash_of key)).returned
        (keys_of es) key (asked key) has) (λ key has. has);
  }

  borne : Matches (written_facts v label c.blocks (counted_blocks options c)) es hs
  borne =
      let said = written_facts v label c.blocks (counted_blocks options c) in
      let by_chunks : Matches said (joined c.blocks) hs = record {
        data_block_count = omega (arith, length-handles v 0 c.blocks);
        key_range = refl;
        seqno_min = refl;
        seqno_max = refl;
        file_size = chunk_sizes v 0 c.blocks;
        item_count = refl;
        tombstone_count = refl;
        weak_tombstone_count = refl;
        weak_tombstone_reclaimable = refl;
      } in
      subst (λ (xs : List Entry). Matches said xs hs) chunks by_chunks

  written_stores : options.index_block_restart_interval ≡ 1
      → (s : StoresList bytes es) × (s.handles ≡ hs)
  written_stores one = (
    record {
      trailer = trailer_here v label options spills es c is fits strict short;
      regions = regions;
      places = regions_here v label options spills es c is fits strict short;
      facts = written_facts v label c.blocks (counted_blocks options c);
      meta = facts_here v label options spills es c is fits strict short one;
      blocks = c.blocks;
      handles = hs;
      whole = chunks;
      named = named;
      laid = chunks_laid v 0 c.blocks;
      index = index;
      filter = filter;
      strict = strict;
      numbers = all_more (EntryFits v) (λ (e : Entry). e.seqno < 2 ^ 64 - 1) (λ e f. f.number) es
          (entries_fit v label options spills es c is fits strict short);
      borne = borne;
      none = empty_refused v label options spills es c is;
    },
    refl,
  )

-- ---- a table of a list

-- a table that readers read
pub table_stores : (bytes : List ℕ) (es : List Entry) (t : IsTable bytes es)
    → t.options.index_block_restart_interval ≡ 1 → length bytes < 2 ^ 63 → StoresItsBlocks t
table_stores bytes es t one short =
    let hs = handles t.version ((t.file).content).blocks in
    subst (λ (b : List ℕ). (s : StoresList b es) × (s.handles ≡ hs)) (sym t.file.are)
    (written_stores t.version t.label t.options t.spills es (t.file).content t.file.is t.fits
    t.strict (short_file bytes es t short) one)

-- one that was opened is read
pub open_stores : (t : OpenTable) → IsOpen t → (es : List Entry) (file : IsTable t.bytes es)
    → StoresItsBlocks file
open_stores t held es file =
    let pins = held.recovered in
    let one = interval_is file.version file.label file.options file.spills es
    (file.file).content file.file.is file.fits file.strict
    (short_file t.bytes es file held.short) t.global_seqno pins.pin_filter pins.pin_index t.parts
    (reported_file t.bytes es file held.short t.global_seqno pins.pin_filter pins.pin_index t.parts
    pins.returned) in
    table_stores t.bytes es file one held.short

-- What a table of a list holds: its chunks, its handles and its counts, all of which fit.
use Rattle.std.proofs.Common.{◌≡◌, ℕ, ◌+◌, ◌^◌, ◌<◌, ◌≤◌, List, [], ◌∷◌, ◌++◌, length, sym, ap}
use Rattle.std.proofs.Common.{subst, ◌∙◌, length-append, arith}
use Rattle.std.specs.Prelude.{unwrap_or}
use Rattle.std.specs.List.{AllByRecursion, flat_map}
use Rattle.sst_blocks.specs.declared.version.TableVersion.{TableVersion}
use Rattle.sst_blocks.specs.declared.version.TableVersion.TheVariants.{V3, V4}
use Rattle.sst_blocks.specs.Sections.{finished, trailer}
use Rattle.sst_blocks.specs.Version.{longest_key}
use Rattle.sst_entries.specs.Entry.{Entry}
use Rattle.sst_entries.specs.Strict.{IsStrict, last_of}
use Rattle.sst_blocks.specs.declared.block_type.BlockType.TheVariants.{Filter, Meta}
use Rattle.sst_blocks.specs.Handle.{Handle}
use Rattle.sst_blocks.specs.Handles.{AreStrictHandles, IsSpellableHandle}
use Rattle.sst_blocks.specs.Payload.{payload}
use Rattle.sst_blocks.specs.filter.Filter.{BloomFilter, payload_of}
use Rattle.sst_blocks.proofs.BlockLengths.{length-block}
use Rattle.sst_blocks.specs.table.Chunks.{AreChunksFrom, joined}
use Rattle.sst_blocks.specs.table.Content.{Content}
use Rattle.sst_blocks.specs.table.Facts.{first_key, last_key}
use Rattle.sst_blocks.specs.table.File.{IsContent, counted_blocks}
use Rattle.sst_blocks.specs.table.Filters.{filter_block}
use Rattle.sst_blocks.specs.table.Fits.{EntryFits, Fits, SectionFits}
use Rattle.sst_blocks.specs.table.Index.{data_section, handles}
use Rattle.sst_blocks.specs.table.Kinds.{filter_count, filter_sections}
use Rattle.sst_blocks.specs.table.Layout.{bytes_in}
use Rattle.sst_blocks.specs.declared.table.label.Label.{Label}
use Rattle.sst_blocks.specs.declared.table.options.FilterKind.{FilterKind}
use Rattle.sst_blocks.specs.declared.table.options.FilterKind.TheVariants.{Full as FullFilter}
use Rattle.sst_blocks.specs.declared.table.options.FilterKind.TheVariants.{
  Partitioned as PartitionedFilter,
}
use Rattle.sst_blocks.specs.declared.table.options.Options.{Options}
use Rattle.lsm_readers.proofs.ChunkReads.{AreSome}
use Rattle.lsm_readers.proofs.FileIndexKinds.{index_count}
use Rattle.lsm_readers.proofs.FileLengths.{handle_fits, handles_strict, highest_below, last_fits}
use Rattle.lsm_readers.proofs.FileLengths.{last_some, lowest_fits, section_wide}
use Rattle.lsm_readers.proofs.FileSections.{body_is, data_len, the_end, the_filter, the_index}
use Rattle.lsm_readers.proofs.FileSections.{the_items, the_meta, written}
use Rattle.sst_blocks.proofs.SectionLaws.{finished_body}
use Rattle.sst_blocks.proofs.FactLaws.{length-handles}
use Rattle.lsm_readers.proofs.MetaBlocks.{meta_length}
use Rattle.lsm_readers.proofs.MetaReads.{FactsFit}

-- each chunk of a cut list has an entry
pub some_chunks : (size : ℕ) (spills : List ℕ) (at : ℕ) (cs : List (List Entry))
    → AreChunksFrom size spills at cs → AreSome cs
some_chunks size spills at [] h = tt
some_chunks size spills at (c ∷ cs) h = ((h.0).some, some_chunks size spills (at + length c) cs h.2)

-- ---- keys

pub first_short : (v : TableVersion) (es : List Entry) → AllByRecursion (EntryFits v) es
    → length (unwrap_or (first_key es) []) ≤ longest_key v
first_short v [] fits = omega arith
first_short v (e ∷ es) fits = (fits.0).key

pub last_short : (v : TableVersion) (es : List Entry) → AllByRecursion (EntryFits v) es
    → length (unwrap_or (last_key es) []) ≤ longest_key v
unfolding last_of
last_short v [] fits = omega arith
last_short v (e ∷ es) fits = rw (last_some e es) ((last_fits v e es fits).key)

pub longest_below : (v : TableVersion) → longest_key v ≤ 1048576
longest_below V3 = omega arith
longest_below V4 = omega arith

-- ---- how many blocks there are

few_filters : (v : TableVersion) (fs : List BloomFilter)
    → length fs ≤ length (flat_map (filter_block v) fs)
few_filters v [] = omega arith
few_filters v (f ∷ fs) = omega (
  arith,
  few_filters v fs,
  length-block v Filter
      (payload_of f),
  length-append (filter_block v f) (flat_map (filter_block v) fs),
)

filter_small : (k : FilterKind) (v : TableVersion) (at : ℕ) (keys : List (List (List ℕ)))
    (fs : List BloomFilter) → AllByRecursion SectionFits (filter_sections k v at keys fs)
    → filter_count k fs < 2 ^ 32
filter_small FullFilter v at keys fs fits = omega arith
filter_small (PartitionedFilter size) v at keys [] fits = omega arith
filter_small (PartitionedFilter size) v at keys (f ∷ fs) fits =
    omega (arith, (fits.0).short, few_filters v (f ∷ fs))

module _ (v : TableVersion) (label : Label) (options : Options) (spills : List ℕ) (es : List Entry)
    (c : Content) (is : IsContent v options spills es c) (fits : Fits v label options c)
    (strict : IsStrict es)
    (short : length (finished (written v label options c)) < 2 ^ 63) where
  abbrev cs : List (List Entry)
  cs = c.blocks

  abbrev pub the_handles : List Handle
  the_handles = handles v cs

  pub whole : joined cs ≡ es
  whole = is.chunks.whole

  pub line : IsStrict (joined cs)
  line = subst IsStrict (sym whole) strict

  pub all_some : AreSome cs
  all_some = some_chunks options.data_block_size spills 0 cs is.chunks.each

  pub entries_fit : AllByRecursion (EntryFits v) es
  entries_fit = subst (λ (xs : List Entry). AllByRecursion (EntryFits v) xs) whole fits.entries

  pub body_short : length (written v label options c).bytes < 2 ^ 63
  body_short = omega (
    arith,
    short,
    length-append (written v label options c).bytes
        (trailer (written v label options c)),
  )

  lengths : length (written v label options c).bytes
      ≡ data_len v label options c + (length (bytes_in (the_index v label options c))
      + (length (bytes_in (the_filter v label options c))
      + length (bytes_in (the_end v label options c))))
  lengths =
      let i = bytes_in (the_index v label options c) in
      let f = bytes_in (the_filter v label options c) in
      let e = bytes_in (the_end v label options c) in
      omega (
        arith,
        ap length (sym (finished_body (written v label options c))
            ∙ body_is v label options c),
        length-append (data_section v cs)
            (i ++ (f ++ e)),
        length-append i (f ++ e),
        length-append f e,
      )

  pub data_short : length (data_section v cs) < 2 ^ 63
  data_short = omega (arith, body_short, lengths)

  pub index_within : length (data_section v cs) + length (bytes_in (the_index v label options c))
      < 2 ^ 64
  index_within = omega (arith, body_short, lengths)

  pub filter_within : length (data_section v cs) + length (bytes_in (the_index v label options c))
      + length (bytes_in (the_filter v label options c)) < 2 ^ 64
  filter_within = omega (arith, body_short, lengths)

  pub handles_line : AreStrictHandles the_handles
  handles_line = handles_strict v cs all_some line

  pub handles_fit : AllByRecursion (IsSpellableHandle v) the_handles
  handles_fit = handle_fits v 0 cs (omega (arith, data_short)) all_some fits.entries fits.blocks

  pub meta_short : length (payload v (the_items v label options c)) + 24 < 2 ^ 32
  meta_short =
      omega (
        arith,
        meta_length v label options cs (counted_blocks options c),
        first_short v
            (joined cs) fits.entries,
        last_short v (joined cs) fits.entries,
        longest_below v,
      )

  pub meta_block_short : length (the_meta v label options c) < 2 ^ 32
  meta_block_short = omega (
    arith,
    meta_short,
    length-block v Meta
        (payload v (the_items v label options c)),
  )

  -- what the list says fits its fields
  pub facts_fit : options.index_block_restart_interval ≡ 1
      → FactsFit label options cs v (counted_blocks options c)
  facts_fit one =
      let xs = joined cs in
      let wide = section_wide v cs in
      let many = index_count options.index_kind the_handles c.index is.index in
      let chunks = length-handles v 0 cs in
      record {
        id = (fits.label_fits).id;
        created_at = (fits.label_fits).created_at;
        interval = one;
        items = omega (arith, data_short, wide);
        lowest = lowest_fits xs;
        highest = highest_below v xs fits.entries;
        data_blocks = omega (arith, data_short, wide);
        index_blocks = omega (arith, data_short, wide, many, chunks);
        filter_blocks = omega (
          arith,
          filter_small options.filter_kind v _ c.keys c.filters
              fits.filter,
        );
        file_size = omega (arith, data_short);
      }

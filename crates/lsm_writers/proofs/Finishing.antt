-- A finished table: its index, its meta block and its sections.
use Rattle.std.proofs.Common.{◌≡◌, refl, sym, ◌∙◌, ap, subst, ℕ, ◌*◌, ◌<◌, ◌≤◌, Bool, true, false}
use Rattle.std.proofs.Common.{List, [], ◌∷◌, ◌++◌, length, take, append_assoc, arith, length-append}
use Rattle.std.specs.Prelude.{Option, Some, None, unwrap_or, if◌then◌else◌}
use Rattle.std.specs.List.{AllByRecursion}
use Rattle.std.proofs.lemmas.List.{append-nil, nil_from_length}
use Rattle.std.proofs.lemmas.List.Sums.{sum_by-cons}
use Rattle.sst_blocks.specs.declared.version.TableVersion.TheVariants.{V4}
use Rattle.sst_blocks.specs.Encoding.{entries_fault}
use Rattle.sst_entries.specs.declared.error.Error.{Error}
use Rattle.sst_entries.specs.declared.error.Error.TheVariants.{WriterFailed}
use Rattle.sst_entries.specs.Entry.{Entry}
use Rattle.sst_blocks.specs.Fnv.{fnv1a}
use Rattle.sst_entries.specs.Strict.{IsStrict, last_of}
use Rattle.lsm_writers.specs.declared.writer.meta.Metadata.{Metadata}
use Rattle.sst_blocks.specs.table.Chunks.{joined, entry_size, entries_size, is_full, AreChunks}
use Rattle.lsm_writers.specs.Counts.{metadata_of, counted_facts, counted_items, HasShortKeys}
use Rattle.lsm_writers.specs.Cut.{rest_chunk}
use Rattle.sst_blocks.specs.table.Facts.{ListFacts, first_key, last_key}
use Rattle.sst_blocks.proofs.KindLemmas.{index_parts_are, filter_parts_are}
use Rattle.sst_blocks.specs.table.Content.{Content}
use Rattle.sst_blocks.specs.table.File.{IsContent, counted_blocks, file, filter_part}
use Rattle.sst_blocks.specs.table.File.{front_sections}
use Rattle.sst_blocks.specs.table.File.{index_part, meta_section, version_section}
use Rattle.sst_blocks.specs.table.Filters.{AreFiltersFor, filtered_keys}
use Rattle.sst_blocks.specs.table.Kinds.{AreFilterParts, filter_count, filter_sections, index_parts}
use Rattle.sst_blocks.specs.table.Kinds.{index_sections}
use Rattle.sst_blocks.specs.table.Layout.{Sections, bytes_in, laid, appended}
use Rattle.sst_blocks.specs.table.Parts.{parts_after}
use Rattle.sst_blocks.specs.declared.table.options.FilterKind.{FilterKind}
use Rattle.lsm_writers.specs.declared.section.filter_either.FilterWriterImpl.{FilterWriterImpl}
use Rattle.lsm_writers.specs.Filtering.{IsFiltered, MayHaveKeys}
use Rattle.sst_blocks.specs.declared.table.options.IndexKind.{IndexKind}
use Rattle.sst_blocks.specs.declared.table.options.IndexKind.TheVariants.{Full as FullIndex}
use Rattle.sst_blocks.specs.declared.table.options.IndexKind.TheVariants.{
  Partitioned as PartitionedIndex,
}
use Rattle.lsm_writers.specs.section.IndexRefusing.{index_fault, parts_fault}
use Rattle.lsm_writers.specs.section.FilterRefusing.{filter_fault}
use Rattle.lsm_writers.specs.section.Writing.{WritesFilter}
use Rattle.sst_blocks.specs.filter.Filter.{BloomFilter}
use Rattle.sst_blocks.specs.declared.filter.policy.BloomConstructionPolicy.{BloomConstructionPolicy}
use Rattle.sst_blocks.specs.Sections.{Written, finished}
use Rattle.sst_blocks.specs.declared.section.SectionName.TheVariants.{Data}
use Rattle.lsm_writers.proofs.Laying.{laid_more}
use Rattle.sst_blocks.specs.table.Fits.{BlockFits, EntryFits, LabelFits, SectionFits}
use Rattle.lsm_writers.specs.declared.section.index_either.IndexWriterImpl.{IndexWriterImpl}
use Rattle.lsm_writers.specs.section.IndexEither.{registered_by}
use Rattle.lsm_writers.specs.section.Registered.{Registered}
use Rattle.lsm_writers.specs.Held.{AreTableParts, IsShortest, IsHeld}
use Rattle.sst_blocks.specs.Handle.{Handle}
use Rattle.sst_blocks.specs.table.Index.{data_section, handles, last_entry}
use Rattle.sst_blocks.specs.table.MetaBlock.{BlockCounts, meta_entries, meta_entry, meta_items}
use Rattle.sst_blocks.specs.table.MetaBlock.{name_of}
use Rattle.sst_blocks.specs.declared.table.item_name.ItemName.{ItemName}
use Rattle.sst_blocks.specs.declared.table.item_name.ItemName.TheVariants as item
use Rattle.sst_blocks.proofs.MetaItems.{IsShort, items_each, items_few, items_strict}
use Rattle.sst_blocks.specs.declared.table.options.Options.{Options}
use Rattle.sst_blocks.specs.declared.table.label.Label.{Label}
use Rattle.sst_blocks.specs.table.Failed.{failed_fault}
use Rattle.lsm_writers.specs.Writing.{Writing, written, spilled, blocks_of, content_of}
use Rattle.lsm_writers.specs.Writing.{keys_of_parts, spills_of, cut_writing, sections_fault}
use Rattle.lsm_writers.specs.Writing.{finish_fault, IsFinished, WritesTable}
use Rattle.lsm_writers.proofs.Chunking.{are_chunks}
use Rattle.sst_entries.proofs.Lists.{all_more, all_behind, all_front}
use Rattle.lsm_writers.proofs.Orders.{last_of_cons, nothing_last}
use Rattle.lsm_writers.proofs.Filtered.{no_keys, no_filter_fault}
use Rattle.lsm_writers.proofs.Taking.{no_fault}

-- ---- the index

last_all : (P : Entry → Type 0) (e : Entry) (es : List Entry) → AllByRecursion P (e ∷ es)
    → P (last_entry (e ∷ es))
unfolding last_of
last_all P e [] h = h.0
last_all P e (f ∷ es) h = last_all P f es h.1

-- without entries there are no chunks
pub no_chunks : (size : ℕ) (cs : List (List Entry)) → AllByRecursion (IsShortest size) cs
    → length (joined cs) ≡ 0 → cs ≡ []
no_chunks size [] some h = refl
no_chunks size (c ∷ cs) some h = absurd (omega (arith, h, length-append c (joined cs), some.0.some))

no_kind_fault : (k : IndexKind) → index_fault k false [] ≡ None
unfolding parts_after parts_fault
no_kind_fault FullIndex = refl
no_kind_fault (PartitionedIndex size) = refl

-- nothing is refused where there are no blocks
pub nothing_refused : (w : Writing) → w.cut ≡ [] → sections_fault w ≡ None
nothing_refused w h =
    rw (
      h,
      no_kind_fault w.options.index_kind,
      no_keys w.options.bloom_policy,
      no_filter_fault
          w.options.filter_kind w.options.bloom_policy,
    ) refl

-- ---- the meta block

same_items : {A : Type 0} (label : Label) (options : Options) (m : Metadata A)
    (cs : List (List Entry)) (fs : List BloomFilter) (i f : ℕ)
    → i ≡ length (index_parts options.index_kind (handles V4 cs))
    → f ≡ filter_count options.filter_kind fs → m ≡ metadata_of V4 cs []
    → counted_items label options (record { index = i; filter = f }) m
    ≡ meta_entries V4 label options cs (counted_blocks options (content_of options cs fs))
unfolding counted_items
same_items label options m cs fs i f index filter h =
    rw (h, append-nil (joined cs), index, filter) refl

abbrev IsSmall : Entry → Type 0
IsSmall e = EntryFits V4 e × (entry_size e ≤ 1048640)

short_small : (e : Entry) → IsShort e → IsSmall e
short_small e h = (
  record {
    key = omega (arith, h.name);
    value = omega (arith, h.value);
    number =
        omega (arith, h.number);
  },
  omega (arith, h.name, h.value),
)

small_sum : (es : List Entry) → AllByRecursion IsSmall es → entries_size es ≤ 1048640 * length es
small_sum [] h = omega arith
small_sum (e ∷ es) h = omega (arith, small_sum es h.1, h.0.1, sum_by-cons entry_size e es)

-- the item of a key
key_small : (name : ItemName) (key : List ℕ) → length (name_of name) ≤ 64 → length key ≤ 1048576
    → IsSmall (meta_entry name key)
key_small name key short fits = (
  record {
    key = omega (arith, short);
    value =
        omega (arith, fits);
    number = omega arith;
  },
  omega (arith, short, fits),
)

items_fit : (label : Label) (options : Options) (counted : BlockCounts) (f : ListFacts) (a b d : ℕ)
    → length f.max_key ≤ 1048576 → length f.min_key ≤ 1048576
    → entries_fault (meta_items V4 label options counted f a b d) ≡ None
unfolding name_of
items_fit label options counted f a b d top low =
    let es = meta_items V4 label options counted f a b d in
    let small = items_each V4 label options counted f a b d IsSmall short_small
    (key_small item.KeyMax f.max_key (omega arith) top)
    (key_small item.KeyMin f.min_key (omega arith) low) in
    let n = items_few V4 label options counted f a b d in
    no_fault es (all_more IsSmall (EntryFits V4) (λ e h. h.0) es small)
    (omega (arith, small_sum es small, n))

pub first_short : (es : List Entry) → AllByRecursion (EntryFits V4) es
    → length (unwrap_or (first_key es) []) ≤ 1048576
first_short [] h = omega arith
first_short (e ∷ es) h = h.0.key

pub last_short : (es : List Entry) → AllByRecursion (EntryFits V4) es
    → length (unwrap_or (last_key es) []) ≤ 1048576
last_short [] h = rw nothing_last (omega arith)
last_short (e ∷ es) h = rw (last_of_cons None e es) (last_all (EntryFits V4) e es h).key

pub counted_strict : {A : Type 0} (label : Label) (options : Options) (counts : BlockCounts)
    (m : Metadata A) → IsStrict (counted_items label options counts m)
unfolding counted_items
counted_strict label options counts m = items_strict V4 label options counts
    (counted_facts m) m.data_block_count m.file_pos.0 m.uncompressed_size

pub counted_fit : {A : Type 0} (label : Label) (options : Options) (counts : BlockCounts)
    (m : Metadata A) → HasShortKeys m → entries_fault (counted_items label options counts m) ≡ None
unfolding counted_items
counted_fit label options counts m h = items_fit label options counts
    (counted_facts m) m.data_block_count m.file_pos.0 m.uncompressed_size h.last h.first

-- the phases of finishing leave the sections of a table
module _ {A : Type 0} (label : Label) (options : Options) (cs : List (List Entry))
    (fs : List BloomFilter) (m : Metadata A) (i f : ℕ)
    (first indexed filtered versioned whole : Written) where
  abbrev content : Content
  content = content_of options cs fs

  abbrev data_part : Sections
  data_part = (Data, data_section V4 cs) ∷ []

  abbrev items : List Entry
  items = counted_items label options (record { index = i; filter = f }) m

  pub laid_index : first ≡ laid data_part → indexed
      ≡ appended first (index_sections options.index_kind V4 (length first.bytes) (handles V4 cs)
      (index_parts options.index_kind (handles V4 cs)))
      → indexed ≡ laid (front_sections V4 options content)
  laid_index d x =
      let n : length first.bytes ≡ length (data_section V4 cs) =
      ap (λ (y : Written). length y.bytes) d ∙ ap length (append-nil (data_section V4 cs)) in
      x ∙ ap (λ (at : ℕ). appended first (index_sections options.index_kind V4 at (handles V4 cs)
      (index_parts options.index_kind (handles V4 cs)))) n
      ∙ ap (λ (y : Written). appended y (index_part V4 options content)) d
      ∙ laid_more data_part (index_part V4 options content)

  pub laid_filter : indexed ≡ laid (front_sections V4 options content)
      → filtered ≡ appended indexed (filter_sections options.filter_kind V4
      (length indexed.bytes) content.keys fs)
      → filtered ≡ laid (front_sections V4 options content ++ filter_part V4 options content)
  laid_filter l z =
      let front = front_sections V4 options content in
      let n : length indexed.bytes ≡ length (bytes_in front) =
      ap (λ (y : Written). length y.bytes) l in
      z ∙ ap (λ (at : ℕ). appended indexed (filter_sections options.filter_kind V4 at content.keys
      fs)) n
      ∙ ap (λ (y : Written). appended y (filter_part V4 options content)) l
      ∙ laid_more front (filter_part V4 options content)

  pub phases : filtered ≡ laid (front_sections V4 options content ++ filter_part V4 options content)
      → versioned ≡ appended filtered (version_section V4)
      → whole ≡ appended versioned (meta_section V4 items)
      → i ≡ length (index_parts options.index_kind (handles V4 cs))
      → f ≡ filter_count options.filter_kind fs → m ≡ metadata_of V4 cs []
      → finished whole ≡ file V4 label options content
  phases l v w index filter h =
      let front = front_sections V4 options content in
      let part = filter_part V4 options content in
      let meta = meta_section V4 items in
      let with_filter : Sections = front ++ part in
      let with_version : Sections = with_filter ++ version_section V4 in
      let laid_version : versioned ≡ laid with_version = v
      ∙ ap (λ (y : Written). appended y (version_section V4)) l
      ∙ laid_more with_filter (version_section V4) in
      let laid_meta : whole ≡ laid (with_version ++ meta) = w
      ∙ ap (λ (y : Written). appended y meta) laid_version ∙ laid_more with_version meta in
      let order : with_version ++ meta ≡ with_filter ++ (version_section V4 ++ meta) =
      append_assoc with_filter (version_section V4) meta in
      ap finished laid_meta
      ∙ ap (λ (ss : Sections). finished (laid ss)) order
      ∙ ap (λ (xs : List Entry). finished (laid (with_filter
      ++ (version_section V4 ++ meta_section V4 xs))))
      (same_items label options m cs fs i f index filter h)

-- the phases, from what their calls ensure
pub writes_table : {A : Type 0} (w : Writing) (m : Metadata A) (i f : ℕ)
    (first indexed filtered versioned whole : Written) (kind : IndexKind) (hs : List Handle)
    (bytes : List ℕ)
    → kind ≡ w.options.index_kind → first ≡ laid ((Data, data_section V4 w.cut) ∷ [])
    → hs ≡ handles V4 w.cut
    → indexed ≡ appended first (index_sections kind V4 (length first.bytes) hs
    (index_parts kind hs))
    → AllByRecursion SectionFits (index_sections kind V4 (length first.bytes) hs
    (index_parts kind hs))
    → i ≡ length (index_parts kind hs)
    → WritesFilter w.options.filter_kind w.options.bloom_policy
    (filtered_keys w.options.bloom_policy (joined w.cut)) indexed filtered f
    → versioned ≡ appended filtered (version_section V4)
    → whole ≡ appended versioned (meta_section V4
    (counted_items w.label w.options (record { index = i; filter = f }) m))
    → m ≡ metadata_of V4 w.cut [] → AllByRecursion (BlockFits V4) w.cut → bytes ≡ finished whole
    → WritesTable w bytes
writes_table w m i f first indexed filtered versioned whole kind hs bytes k d h x xf count t v e
    held blocks done =
    let fs = t.filters in
    let c = content_of w.options w.cut fs in
    let at : length first.bytes ≡ length (data_section V4 w.cut) =
    ap (λ (y : Written). length y.bytes) d ∙ ap length (append-nil (data_section V4 w.cut)) in
    let indexed_is : indexed ≡ appended first (index_sections w.options.index_kind V4
    (length first.bytes) (handles V4 w.cut) (index_parts w.options.index_kind
    (handles V4 w.cut))) = rw (sym k, sym h) x in
    let laid_i = laid_index w.label w.options w.cut fs m i f first indexed filtered versioned whole
    d indexed_is in
    let front : length indexed.bytes ≡ length (bytes_in (front_sections V4 w.options c)) =
    ap (λ (y : Written). length y.bytes) laid_i in
    let laid_f = laid_filter w.label w.options w.cut fs m i f first indexed filtered versioned whole
    laid_i t.written in
    let counted : i ≡ length (index_parts w.options.index_kind (handles V4 w.cut)) =
    rw (sym k, sym h) count in
    let file_is = phases w.label w.options w.cut fs m i f first indexed filtered versioned whole
    laid_f v e counted t.counted held in
    record {
      filters = fs;
      are_filters = t.are;
      are = done ∙ file_is;
      blocks = blocks;
      index = rw (sym k, sym h) (subst (λ (n : ℕ). AllByRecursion SectionFits
          (index_sections kind V4 n hs (index_parts kind hs))) at xf);
      filter = subst (λ (n : ℕ). AllByRecursion SectionFits
          (filter_sections w.options.filter_kind V4 n c.keys fs)) front t.fit;
    }

-- the same, from the parts that a table is finished from
pub sections_written : {A : Type 0} (label : Label) (options : Options) (cut : List (List Entry))
    (i f : ℕ) (first indexed filtered versioned whole : Written) (index : IndexWriterImpl A)
    (filter : Option (FilterWriterImpl A)) (m : Metadata A)
    → AreTableParts options cut first index filter m
    → indexed ≡ appended first (index_sections (registered_by index).kind V4 (length first.bytes)
    (registered_by index).handles (index_parts (registered_by index).kind
    (registered_by index).handles))
    → AllByRecursion SectionFits (index_sections (registered_by index).kind V4 (length first.bytes)
    (registered_by index).handles (index_parts (registered_by index).kind
    (registered_by index).handles))
    → i ≡ length (index_parts (registered_by index).kind (registered_by index).handles)
    → WritesFilter options.filter_kind options.bloom_policy
    (filtered_keys options.bloom_policy (joined cut)) indexed filtered f
    → versioned ≡ appended filtered (version_section V4)
    → whole ≡ appended versioned (meta_section V4
    (counted_items label options (record { index = i; filter = f }) m))
    → WritesTable (cut_writing label options cut) (finished whole)
sections_written label options cut i f first indexed filtered versioned whole index filter m p x xf
    count t v e =
    writes_table (cut_writing label options cut) m i f first indexed filtered versioned whole
    (registered_by index).kind (registered_by index).handles
    (finished whole) p.kind p.laid_first p.handles_are x xf count t v e p.counted p.blocks refl

-- and nothing is refused of them
pub sections_fit : {A : Type 0} (label : Label) (options : Options) (cut : List (List Entry))
    (first : Written) (index : IndexWriterImpl A) (filter : Option (FilterWriterImpl A))
    (m : Metadata A)
    → AreTableParts options cut first index filter m
    → index_fault (registered_by index).kind (registered_by index).failed
    (registered_by index).handles ≡ None
    → filter_fault options.filter_kind options.bloom_policy
    (filtered_keys options.bloom_policy (joined cut)) ≡ None
    → sections_fault (cut_writing label options cut) ≡ None
sections_fit label options cut first index filter m p i f =
    let is = rw (p.kind, p.works, p.handles_are) at i in
    rw (is, f) refl

-- a writer that has refused refuses to finish
finish_by : (b : Bool) (other : Option Error) (e : Error) → failed_fault b ≡ Some e
    → (if b then Some WriterFailed else other) ≡ Some e
finish_by true other e h = h
finish_by false other e h = absurd cc

pub finish_failed : (w : Writing) (e : Error) → failed_fault w.failed ≡ Some e
    → finish_fault w ≡ Some e
finish_failed w e h = finish_by w.failed (sections_fault (spilled w)) e h

-- ---- a writer that has nothing pending

pub all_cut : (label : Label) (options : Options) (cut : List (List Entry)) (pending : List Entry)
    (failed : Bool) → pending ≡ [] → failed ≡ false
    → ◌≡◌ {A = Writing} (cut_writing label options cut)
    (record { label = label; options = options; cut = cut; pending = pending; failed = failed })
all_cut label options cut pending failed p f = rw (p, f) refl

pub none_pending : {A : Type 0} (size : ℕ) (cs : List (List Entry)) (pending : List Entry) (n : ℕ)
    (m : Metadata A) → IsHeld size cs pending n m → pending ≡ [] → IsHeld size cs [] n m
none_pending size cs pending n m h e = subst (λ (p : List Entry). IsHeld size cs p n m) e h

pub held_short : {A : Type 0} (size : ℕ) (cs : List (List Entry)) (n : ℕ) (m : Metadata A)
    → IsHeld size cs [] n m → HasShortKeys m
held_short size cs n m h = record {
  first = rw h.counted (first_short (joined cs ++ []) h.fits);
  last = rw h.counted (last_short (joined cs) (all_front (EntryFits V4) (joined cs) [] h.fits));
}

-- ---- a writer whose pending entries were cut off

pub spilled_is : {A : Type 0} (w v : Writing) (n : ℕ) (m : Metadata A) → v ≡ spilled w
    → IsHeld v.options.data_block_size v.cut v.pending n m
    → IsHeld w.options.data_block_size (blocks_of w) [] n m
spilled_is w v n m e h = subst (λ (x : Writing). IsHeld x.options.data_block_size x.cut x.pending n
    m) e h

rest_front : (size : ℕ) (pending : List Entry)
    → AllByRecursion (IsShortest size) (rest_chunk pending) → (n : ℕ) → 0 < n → n < length pending
    → is_full size (take n pending) ≡ false
rest_front size [] h n pos lt = absurd (omega (arith, pos, lt))
rest_front size (e ∷ es) h n pos lt = h.0.shortest n pos lt

all_written : (w : Writing) → AllByRecursion (IsShortest w.options.data_block_size) (blocks_of w)
    → AreChunks w.options.data_block_size (spills_of w) (written w) (blocks_of w)
all_written w h =
    let size = w.options.data_block_size in
    let rest = rest_chunk w.pending in
    are_chunks size w.cut w.pending (all_front (IsShortest size) w.cut rest h)
    (rest_front size w.pending (all_behind (IsShortest size) w.cut rest h))

no_entries : {A : Type 0} (size : ℕ) (cs : List (List Entry)) (n : ℕ) (m : Metadata A)
    → IsHeld size cs [] n m → m.item_count ≡ 0 → length (joined cs) ≡ 0
no_entries {A} size cs n m h none = sym (ap (λ (x : Metadata A). x.item_count) h.counted) ∙ none

pub written_none : {A : Type 0} (w : Writing) (n : ℕ) (m : Metadata A)
    → IsHeld w.options.data_block_size (blocks_of w) [] n m → m.item_count ≡ 0 → written w ≡ []
written_none w n m h none = sym (all_written w h.shortest).whole
    ∙ nil_from_length (joined (blocks_of w)) (no_entries _ _ n m h none)

pub written_some : {A : Type 0} (w : Writing) (n : ℕ) (m : Metadata A)
    → IsHeld w.options.data_block_size (blocks_of w) [] n m → (m.item_count ≡ 0 → ⊥)
    → written w ≡ [] → ⊥
written_some {A} w n m h some e = some (ap (λ (x : Metadata A). x.item_count) h.counted
    ∙ ap length ((all_written w h.shortest).whole ∙ e))

pub nothing_behind : (xs ys : List Entry) → xs ++ ys ≡ [] → ys ≡ []
nothing_behind [] ys e = e
nothing_behind (x ∷ xs) ys e = absurd cc

pub works_still : (failed : Bool) → failed_fault failed ≡ None → failed ≡ false
works_still true h = absurd cc
works_still false h = refl

pub no_finish_fault : {A : Type 0} (w : Writing) (n : ℕ) (m : Metadata A)
    → IsHeld w.options.data_block_size (blocks_of w) [] n m → failed_fault w.failed ≡ None
    → m.item_count ≡ 0 → finish_fault w ≡ None
no_finish_fault w n m h f none =
    let cs = blocks_of w in
    rw (works_still w.failed f) (nothing_refused (spilled w)
    (no_chunks w.options.data_block_size cs h.shortest (no_entries _ cs n m h none)))

pub sections_fault_is : (w v : Writing) → v ≡ spilled w → failed_fault w.failed ≡ None
    → sections_fault v ≡ finish_fault w
sections_fault_is w v e f = rw (works_still w.failed f) (ap sections_fault e)

written_all : (w : Writing) → AllByRecursion (IsShortest w.options.data_block_size) (blocks_of w)
    → joined (blocks_of w) ++ [] ≡ written w
written_all w h = append-nil (joined (blocks_of w)) ∙ (all_written w h).whole

pub written_strict : {A : Type 0} (w : Writing) (n : ℕ) (m : Metadata A)
    → IsHeld w.options.data_block_size (blocks_of w) [] n m → IsStrict (written w)
written_strict w n m h = subst (λ (es : List Entry). IsStrict es)
    (written_all w h.shortest) h.strict

pub written_fits : {A : Type 0} (w : Writing) (n : ℕ) (m : Metadata A)
    → IsHeld w.options.data_block_size (blocks_of w) [] n m
    → AllByRecursion (EntryFits V4) (written w)
written_fits w n m h = subst (λ (es : List Entry). AllByRecursion (EntryFits V4) es)
    (written_all w h.shortest) h.fits

-- what the table of a list of chunks holds is what a table of the list holds
content_is : (options : Options) (spills : List ℕ) (es : List Entry) (cs : List (List Entry))
    (fs : List BloomFilter) → AreChunks options.data_block_size spills es cs
    → AreFiltersFor options.bloom_policy (keys_of_parts options cs) fs
    → IsContent V4 options spills es (content_of options cs fs)
content_is options spills es cs fs h are = record {
  chunks = h;
  index = index_parts_are options.index_kind (handles V4 cs);
  keys =
      subst (λ (xs : List Entry). AreFilterParts options.filter_kind options.bloom_policy
      (filtered_keys options.bloom_policy xs) (keys_of_parts options cs)) h.whole
      (filter_parts_are options.filter_kind options.bloom_policy
      (filtered_keys options.bloom_policy (joined cs)));
  filters = are;
}

pub finished_is : {A : Type 0} (w : Writing) (n : ℕ) (m : Metadata A) (id checksum : ℕ)
    (bytes : List ℕ) → IsHeld w.options.data_block_size (blocks_of w) [] n m
    → (m.item_count ≡ 0 → ⊥)
    → id ≡ w.label.table_id → checksum ≡ fnv1a bytes → WritesTable (spilled w) bytes
    → LabelFits w.label → IsFinished w id checksum bytes
finished_is {A} w n m id checksum bytes h some i s t label = record {
  some = written_some w n m h some;
  id_is = i;
  checksum_is = s;
  file_is = record {
    content = content_of w.options (blocks_of w) t.filters;
    is = content_is w.options (spills_of w) (written w) (blocks_of w) t.filters
        (all_written w h.shortest) t.are_filters;
    are = t.are;
  };
  strict = written_strict w n m h;
  fits = record {
    entries = all_front (EntryFits V4) (joined (blocks_of w)) [] h.fits;
    blocks = t.blocks;
    index = t.index;
    filter = t.filter;
    label_fits = label;
  };
}

-- the keys of the filter of what was cut, where nothing is pending
pub keys_of_cut : {A : Type 0} (failed : Bool) (kind : FilterKind)
    (policy : BloomConstructionPolicy) (w : Option (FilterWriterImpl A)) (cs : List (List Entry))
    (pending : List Entry) → IsFiltered failed kind policy w (joined cs ++ pending) → failed ≡ false
    → pending ≡ []
    → MayHaveKeys kind policy w (filtered_keys policy (joined cs))
keys_of_cut failed kind policy w cs pending h works none =
    subst (λ (es : List Entry). MayHaveKeys kind policy w (filtered_keys policy es))
    (ap (λ (p : List Entry). joined cs ++ p) none ∙ append-nil (joined cs)) (h.has works)

-- the parts of a writer that has cut all its chunks off
pub parts_are : {A : Type 0} (failed : Bool) (options : Options) (cut : List (List Entry))
    (pending : List Entry) (n : ℕ) (m : Metadata A) (filter : Option (FilterWriterImpl A))
    (first : Written) (hs : List Handle) (lost : Bool) (index : IndexWriterImpl A)
    → IsHeld options.data_block_size cut pending n m
    → IsFiltered failed options.filter_kind options.bloom_policy filter (joined cut ++ pending)
    → pending ≡ [] → failed ≡ false
    → first ≡ laid ((Data, data_section V4 cut) ∷ [])
    → registered_by index ≡ record { handles = hs; kind = options.index_kind; failed = lost }
    → hs ≡ handles V4 cut → lost ≡ false → AllByRecursion (BlockFits V4) cut
    → AreTableParts options cut first index filter m
parts_are failed options cut pending n m filter first hs lost index held filtered none works l r h f
    blocks =
    let all = none_pending options.data_block_size cut pending n m held none in
    record {
      laid_first = l;
      kind = ap (λ (x : Registered). x.kind) r;
      handles_are = ap (λ (x : Registered). x.handles) r ∙ h;
      works = ap (λ (x : Registered). x.failed) r ∙ f;
      keys = keys_of_cut failed options.filter_kind options.bloom_policy filter cut pending filtered
          works none;
      counted = all.counted;
      short = held_short options.data_block_size cut n m all;
      blocks = blocks;
    }

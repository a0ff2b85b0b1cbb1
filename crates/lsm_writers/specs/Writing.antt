-- The state of a writer, and the effects of its calls.
use Rattle.std.specs.Prelude.{◌≡◌, ℕ, ◌+◌, ◌-◌, ◌^◌, ◌<◌, ◌≤◌, Bool, false, ◌&&◌, nat_lt}
use Rattle.std.specs.Prelude.{List, [], ◌∷◌, ◌++◌, length, Option, Some, None, if◌then◌else◌}
use Rattle.std.specs.List.{AllByRecursion}
use Rattle.std.specs.Option.{option_or}
use Rattle.sst_blocks.specs.declared.version.TableVersion.TheVariants.{V4}
use Rattle.sst_entries.specs.declared.value_type.ValueType.TheVariants.{Value}
use Rattle.sst_entries.specs.declared.error.Error.{Error}
use Rattle.sst_entries.specs.declared.error.Error.TheVariants.{WriterFailed}
use Rattle.sst_blocks.specs.Bounds.{data_block_bound_of}
use Rattle.sst_blocks.specs.Encoding.{entry_fault_or, large_fault}
use Rattle.sst_entries.specs.Entry.{Entry, entry}
use Rattle.sst_entries.specs.Strict.{IsStrict, may_follow, last_of}
use Rattle.sst_blocks.specs.table.Chunks.{joined, is_full}
use Rattle.lsm_writers.specs.Cut.{rest_chunk}
use Rattle.sst_blocks.specs.table.Index.{handles}
use Rattle.sst_blocks.specs.Fnv.{fnv1a}
use Rattle.sst_blocks.specs.filter.Filter.{BloomFilter}
use Rattle.sst_blocks.specs.table.Content.{Content}
use Rattle.sst_blocks.specs.table.File.{IsFile, file, index_part, filter_part}
use Rattle.sst_blocks.specs.table.Filters.{AreFiltersFor, filtered_keys}
use Rattle.sst_blocks.specs.table.Fits.{BlockFits, Fits, SectionFits}
use Rattle.sst_blocks.specs.table.Kinds.{filter_parts, index_parts}
use Rattle.sst_blocks.specs.table.Table.{IsTable}
use Rattle.lsm_writers.specs.section.FilterRefusing.{filter_fault}
use Rattle.lsm_writers.specs.section.IndexRefusing.{index_fault}
use Rattle.sst_blocks.specs.declared.table.options.IndexKind.{IndexKind}
use Rattle.sst_blocks.specs.declared.table.options.IndexKind.TheVariants.{Full as FullIndex}
use Rattle.sst_blocks.specs.declared.table.options.IndexKind.TheVariants.{
  Partitioned as PartitionedIndex,
}
use Rattle.sst_blocks.specs.declared.table.options.Options.{Options}
use Rattle.sst_blocks.specs.declared.table.label.Label.{Label}
use Rattle.sst_blocks.specs.table.Options.{default_options}

-- the state of a writer: table info, options, cut chunks, pending entries, and whether a call
-- failed
pub record Writing : Type 0 where
  pub label : Label
  pub options : Options
  pub cut : List (List Entry)
  pub pending : List Entry
  pub failed : Bool

-- the list written: the entries of the cut blocks, then the pending ones
abbrev pub written : Writing → List Entry
written w = joined w.cut ++ w.pending

-- no entry was written and no call failed
abbrev pub IsFresh : Writing → Type 0
IsFresh w = (w.cut ≡ []) × (w.pending ≡ []) × (w.failed ≡ false)

-- the second state has these options changed, and all else is the same
abbrev pub SetsOption : Writing → Writing → (Options → Options) → Type 0
SetsOption w v set = v ≡ record w { options = set w.options }

-- the partition size of an index is at most 4,194,304 bytes
abbrev pub IsSmallIndex : IndexKind → Type 0
IsSmallIndex FullIndex = Unit {0}
IsSmallIndex (PartitionedIndex size) = size ≤ 4194304

-- an entry with this key and seqno can be written next: the seqno is below `u64::MAX`, and the
-- entry sorts strictly after the last one
abbrev pub may_be_written : List Entry → List ℕ → ℕ → Bool
may_be_written es key seqno =
    nat_lt seqno (2 ^ 64 - 1) && may_follow (last_of None es) (entry key [] seqno Value)

-- the first fault of an entry that is appended to the pending ones
abbrev pub item_fault : List Entry → Entry → Option Error
item_fault pending e = entry_fault_or e (large_fault (data_block_bound_of (pending ++ e ∷ [])))

-- the first fault of writing an entry
abbrev pub write_fault : Writing → Entry → Option Error
write_fault w e = if w.failed then Some WriterFailed else item_fault w.pending e

-- the state after one more entry; a full chunk is cut
abbrev pub gained : Writing → Entry → Writing
gained w e =
    let chunk = w.pending ++ e ∷ [] in
    if is_full w.options.data_block_size chunk
    then record w { cut = w.cut ++ chunk ∷ []; pending = [] }
    else record w { pending = chunk }

-- all chunks, with the pending entries as the last one
abbrev pub blocks_of : Writing → List (List Entry)
blocks_of w = w.cut ++ rest_chunk w.pending

-- the state after the pending entries are cut as a block
abbrev pub spilled : Writing → Writing
spilled w = record w { cut = blocks_of w; pending = [] }

-- the end positions in the list of the chunks that are not full, from a start position
unfoldable pub early_ends : ℕ → ℕ → List (List Entry) → List ℕ
early_ends size at [] = []
early_ends size at (c ∷ cs) =
    if is_full size c then early_ends size (at + length c) cs
    else (at + length c) ∷ early_ends size (at + length c) cs

-- the positions in the list at which a block was cut before it was full
abbrev pub spills_of : Writing → List ℕ
spills_of w = early_ends w.options.data_block_size 0 w.cut

-- the filter keys of a list of chunks, by partition
abbrev pub keys_of_parts : Options → List (List Entry) → List (List (List ℕ))
keys_of_parts options cs =
    filter_parts options.filter_kind options.bloom_policy
    (filtered_keys options.bloom_policy (joined cs))

-- the content of the table of these chunks, with these filters
abbrev pub content_of : Options → List (List Entry) → List BloomFilter → Content
content_of options cs fs = record {
  blocks = cs;
  index = index_parts options.index_kind (handles V4 cs);
  keys = keys_of_parts options cs;
  filters = fs;
}

-- the bytes are the table of the cut blocks; the blocks and sections fit
pub record WritesTable (w : Writing) (bytes : List ℕ) : Type 0 where
  pub filters : List BloomFilter
  pub are_filters : AreFiltersFor w.options.bloom_policy (keys_of_parts w.options w.cut) filters
  pub are : bytes ≡ file V4 w.label w.options (content_of w.options w.cut filters)
  pub blocks : AllByRecursion (BlockFits V4) w.cut
  pub index : AllByRecursion SectionFits
      (index_part V4 w.options (content_of w.options w.cut filters))
  pub filter : AllByRecursion SectionFits
      (filter_part V4 w.options (content_of w.options w.cut filters))

-- the first fault of writing the index, then the filter, of the cut blocks
abbrev pub sections_fault : Writing → Option Error
sections_fault w =
    option_or (index_fault w.options.index_kind false (handles V4 w.cut))
    (filter_fault w.options.filter_kind w.options.bloom_policy
    (filtered_keys w.options.bloom_policy (joined w.cut)))

-- the first fault of finishing the table
abbrev pub finish_fault : Writing → Option Error
finish_fault w = if w.failed then Some WriterFailed else sections_fault (spilled w)

-- a finished table with this id, checksum and bytes; its list is strict and fits
pub record IsFinished (w : Writing) (id : ℕ) (checksum : ℕ) (bytes : List ℕ) : Type 0 where
  pub some : written w ≡ [] → ⊥
  pub id_is : id ≡ w.label.table_id
  pub checksum_is : checksum ≡ fnv1a bytes
  pub file_is : IsFile V4 bytes w.label w.options (spills_of w) (written w)
  pub strict : IsStrict (written w)
  pub fits : Fits V4 w.label w.options file_is.content

-- a writable list: strict, with each seqno below `u64::MAX`
pub record IsWritable (es : List Entry) : Type 0 where
  pub strict : IsStrict es
  pub numbered : AllByRecursion (λ (e : Entry). e.seqno < 2 ^ 64 - 1) es

-- a writer without entries
abbrev pub fresh_writing : Label → Options → Writing
fresh_writing label options =
    record { label = label; options = options; cut = []; pending = []; failed = false }

-- a writer without entries, with the default options
abbrev pub new_writing : Label → Writing
new_writing label = fresh_writing label default_options

-- a writer with these chunks cut and no pending entries
abbrev pub cut_writing : Label → Options → List (List Entry) → Writing
cut_writing label options cut = record (fresh_writing label options) { cut = cut }

-- the first fault of writing some entries one by one, then finishing
abbrev pub writing_fault : Writing → List Entry → Option Error
writing_fault w [] = finish_fault w
writing_fault w (e ∷ es) = option_or (write_fault w e) (writing_fault (gained w e) es)

-- the first fault of writing a list as a table
abbrev pub list_fault : Label → List Entry → Option Error
list_fault label es = writing_fault (new_writing label) es

-- a finished table of a list, with this table info and options; no block was cut before it was full
pub record IsTableWith (label : Label) (options : Options) (es : List Entry) (id : ℕ)
    (checksum : ℕ) (bytes : List ℕ) : Type 0 where
  pub some : es ≡ [] → ⊥
  pub id_is : id ≡ label.table_id
  pub checksum_is : checksum ≡ fnv1a bytes
  pub table : IsTable bytes es
  pub label_is : table.label ≡ label
  pub options_are : table.options ≡ options
  pub version_is : table.version ≡ V4
  pub spills_are : table.spills ≡ []

-- a finished table of a list, with this table info and the default options
abbrev pub IsTableOf : Label → List Entry → ℕ → ℕ → List ℕ → Type 0
IsTableOf label es id checksum bytes = IsTableWith label default_options es id checksum bytes

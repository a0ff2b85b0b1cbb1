-- Bytes that store a list of entries, whoever wrote them.
use Rattle.std.specs.Prelude.{◌≡◌, ℕ, ◌+◌, ◌-◌, ◌^◌, ◌<◌, nat_lt, true, List, [], ◌∷◌, length}
use Rattle.std.specs.Prelude.{count_by, sum_by, Option, Some, None, Result, Ok, Err, if◌then◌else◌}
use Rattle.std.specs.List.{AllByRecursion, AllZip}
use Rattle.sst_blocks.specs.Sections.{body_of, trailer_fault}
use Rattle.sst_entries.specs.declared.error.Error.{Error}
use Rattle.sst_entries.specs.declared.error.Error.TheVariants.{GlobalSeqNoTooLarge}
use Rattle.sst_entries.specs.Entry.{Entry}
use Rattle.sst_entries.specs.Error.{Gives}
use Rattle.sst_entries.specs.Point.{point}
use Rattle.sst_entries.specs.Strict.{IsStrict}
use Rattle.sst_blocks.specs.filter.KeyHash.{hash_of}
use Rattle.sst_blocks.specs.declared.block_type.BlockType.{BlockType}
use Rattle.sst_blocks.specs.declared.block_type.BlockType.TheVariants.{Data, Filter}
use Rattle.sst_blocks.specs.Block.{Loaded, entries_of, load_at_result, load_result}
use Rattle.sst_blocks.specs.Handle.{Handle}
use Rattle.sst_blocks.specs.Place.{Place, place_of}
use Rattle.sst_blocks.specs.table.Chunks.{joined}
use Rattle.sst_blocks.specs.table.Facts.{count_after, highest_seqno, is_reclaimable, is_tombstone}
use Rattle.sst_blocks.specs.table.Facts.{is_weak, lowest_seqno}
use Rattle.sst_blocks.specs.table.Filters.{keys_of}
use Rattle.sst_blocks.specs.table.Index.{last_entry}
use Rattle.sst_blocks.specs.table.Partitions.{last_end}
use Rattle.sst_blocks.specs.table.Parts.{joined_parts}
use Rattle.lsm_readers.specs.declared.regions.ParsedRegions.{ParsedRegions}
use Rattle.lsm_readers.specs.point.Answer.{filter_admits, lift}
use Rattle.lsm_readers.specs.point.IndexKinds.{handles_result}
use Rattle.lsm_readers.specs.point.Meta.{Facts, meta_result}
use Rattle.lsm_readers.specs.OfList.{ends_of}
use Rattle.lsm_readers.specs.point.Parts.{places_result, tops_result}
use Rattle.lsm_readers.specs.point.Table.{OpenTable}

-- ---- data blocks

-- A handle names a data block with these entries, at least one, and carries the last one's key and
-- seqno.
pub record NamesChunk (body : List ℕ) (h : Handle) (c : List Entry) : Type 0 where
  pub block : Loaded
  pub loads : load_result body h.offset h.size Data ≡ Ok block
  pub entries : entries_of block ≡ c
  pub some : 0 < length c
  pub end_key : h.end_key ≡ (last_entry c).user_key
  pub seqno : h.seqno ≡ (last_entry c).seqno

-- The blocks of the handles are contiguous from an offset on.
abbrev pub AreLaid : ℕ → List Handle → Type 0
AreLaid at [] = Unit {0}
AreLaid at (h ∷ hs) = (h.offset ≡ at) × AreLaid (at + h.size) hs

-- ---- the index

-- A top-level handle names an index block with these handles, at least one, and carries the last
-- one's end key and seqno.
pub record NamesPart (body : List ℕ) (top : Handle) (part : List Handle) : Type 0 where
  pub handles : handles_result body (place_of top) ≡ Ok part
  pub some : 0 < length part
  pub end_key : top.end_key ≡ (last_end part).user_key
  pub seqno : top.seqno ≡ (last_end part).seqno

-- A top level loads, and its partitions together have these handles.
pub record HasPartitions (body : List ℕ) (place : Place) (hs : List Handle) : Type 0 where
  pub tops : List Handle
  pub parts : List (List Handle)
  pub returned : handles_result body place ≡ Ok tops
  pub named : AllZip (NamesPart body) tops parts
  pub whole : joined_parts parts ≡ hs

-- The index has these handles: in one block, or in partitions if there is a section of them.
abbrev pub IndexHas : List ℕ → Option Place → Place → List Handle → Type 0
IndexHas body None tli hs = handles_result body tli ≡ Ok hs
IndexHas body (Some section) tli hs = HasPartitions body tli hs

-- ---- the filter

-- A block of this type loads at an offset.
pub record LoadsAs (body : List ℕ) (place : Place) (kind : BlockType) : Type 0 where
  pub block : Loaded
  pub loads : load_result body place.offset place.size kind ≡ Ok block

-- Each filter partition loads; without a top level, the one filter block if there is one.
abbrev pub FiltersLoad : List ℕ → Option (List Handle) → Option Place → Type 0
FiltersLoad body (Some tops) place =
    AllByRecursion (λ (top : Handle). LoadsAs body (place_of top) Filter) tops
FiltersLoad body None (Some place) = LoadsAs body place Filter
FiltersLoad body None None = Unit {0}

-- The filter, loaded for each read, does not exclude a key.
abbrev pub Admits : List ℕ → Option (List Handle) → Option Place → List ℕ → Type 0
Admits body tops place key =
    (filter_admits body tops None place key (hash_of key)).returned ≡ Ok true

-- The filter's top level and all its blocks load, and it excludes none of these keys.
pub record FilterHas (body : List ℕ) (filter_tli place : Option Place) (keys : List (List ℕ))
    : Type 0 where
  pub tops : Option (List Handle)
  pub returned : tops_result body filter_tli ≡ Ok tops
  pub loads : FiltersLoad body tops place
  pub admits : AllByRecursion (Admits body tops place) keys

-- ---- the table

-- The meta block's facts match the entries and the handles of the data blocks. The version, id,
-- timestamp, index block count and all items that are not among the facts are not compared.
pub record Matches (said : Facts) (es : List Entry) (hs : List Handle) : Type 0 where
  pub data_block_count : said.data_block_count ≡ length hs
  pub key_range : said.key_range ≡ ends_of es
  pub seqno_min : said.seqno_min ≡ lowest_seqno es
  pub seqno_max : said.seqno_max ≡ highest_seqno es
  pub file_size : said.file_size ≡ sum_by (λ (h : Handle). h.size) hs
  pub item_count : said.item_count ≡ length es
  pub tombstone_count : said.tombstone_count ≡ count_by is_tombstone es
  pub weak_tombstone_count : said.weak_tombstone_count ≡ count_by is_weak es
  pub weak_tombstone_reclaimable :
      said.weak_tombstone_reclaimable ≡ count_after is_reclaimable None es

-- No data block loads at offset 0.
pub record HasNoBlock (body : List ℕ) : Type 0 where
  pub fault : Error
  pub refused : load_at_result body 0 Data ≡ Err fault

-- The bytes store a list: every part of the file loads, and the data blocks are contiguous from
-- offset 0. The list is strict with seqnos below `u64::MAX`, the filter excludes none of its keys,
-- and the meta block matches it.
pub record StoresList (bytes : List ℕ) (es : List Entry) : Type 0 where
  pub trailer : trailer_fault bytes ≡ None
  pub regions : ParsedRegions
  pub places : places_result bytes ≡ Ok regions
  pub facts : Facts
  pub meta : meta_result (body_of bytes) regions.metadata ≡ Ok facts
  pub blocks : List (List Entry)
  pub handles : List Handle
  pub whole : joined blocks ≡ es
  pub named : AllZip (NamesChunk (body_of bytes)) handles blocks
  pub laid : AreLaid 0 handles
  pub index : IndexHas (body_of bytes) regions.index regions.tli handles
  pub filter : FilterHas (body_of bytes) regions.filter_tli regions.filter (keys_of es)
  pub strict : IsStrict es
  pub numbers : AllByRecursion (λ (e : Entry). e.seqno < 2 ^ 64 - 1) es
  pub borne : Matches facts es handles
  -- A table without entries has no data block.
  pub none : length es ≡ 0 → HasNoBlock (body_of bytes)

-- The result of opening bytes that store a list: its highest seqno must fit with the global one
-- added.
abbrev pub fits_result : List Entry → ℕ → Result (Unit {0}) Error
fits_result es g =
    if nat_lt (2 ^ 64 - 1) (highest_seqno es + g) then Err GlobalSeqNoTooLarge else Ok tt

-- On bytes that store a list, a read of a table returned the newest visible version in the list,
-- global seqno applied.
abbrev pub FindsInList : {X : Type 0} → (X → Option Entry) → OpenTable → List ℕ → ℕ → Result X Error
    → Type 0
FindsInList view t key bound r =
    (es : List Entry) → StoresList t.bytes es →
    Gives view r (Ok (point (lift es t.global_seqno) key bound))

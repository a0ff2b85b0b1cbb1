-- Verifying a whole table in one pass: the first fault of each step, or the counts left after it.
use Rattle.std.specs.Prelude.{◌≡◌, ℕ, ◌-◌, ◌^◌, ◌==◌, nat_lt, Bool, true, false}
use Rattle.std.specs.Prelude.{List, [], ◌∷◌, map, max, min, Option, Some, None, Result, Ok, Err}
use Rattle.std.specs.Prelude.{if◌then◌else◌}
use Rattle.std.specs.Result.{IsErrAnd}
use Rattle.sst_blocks.specs.declared.section.SectionName.{SectionName}
use Rattle.sst_blocks.specs.declared.section.SectionName.TheVariants as section
use Rattle.sst_entries.specs.declared.error.Error.{Error}
use Rattle.sst_entries.specs.Entry.{Entry}
use Rattle.sst_entries.specs.Error.{is_memory}
use Rattle.sst_entries.specs.Key.{same_key}
use Rattle.sst_entries.specs.Strict.{last_of}
pub use Rattle.sst_entries.specs.Strict.{may_follow}
use Rattle.sst_blocks.specs.filter.KeyHash.{hash_of}
use Rattle.sst_blocks.specs.declared.block_type.BlockType.{BlockType}
use Rattle.sst_blocks.specs.declared.block_type.BlockType.TheVariants.{Data, Filter, Index}
use Rattle.sst_blocks.specs.Block.{entries_of, load_at_result, load_result, place_fault}
use Rattle.sst_blocks.specs.Handle.{Handle}
use Rattle.sst_blocks.specs.Handles.{end_of}
use Rattle.sst_blocks.specs.Place.{Place, place_of}
pub use Rattle.sst_blocks.specs.table.Facts.{is_reclaimable, is_tombstone, is_weak, one_if}
pub use Rattle.sst_blocks.specs.table.Facts.{starts_key}
use Rattle.sst_blocks.specs.declared.table.item_name.ItemName.{ItemName}
use Rattle.sst_blocks.specs.declared.table.item_name.ItemName.TheVariants as item
use Rattle.lsm_readers.specs.declared.verify.Counts.{Counts}
use Rattle.lsm_readers.specs.declared.verify.Fault.{Fault}
use Rattle.lsm_readers.specs.declared.verify.Fault.TheVariants as fault
use Rattle.lsm_readers.specs.declared.verify.Finding.{Finding}
use Rattle.lsm_readers.specs.declared.verify.Verified.{Verified}
use Rattle.lsm_readers.specs.declared.verify.VerifyError.{VerifyError}
use Rattle.lsm_readers.specs.declared.verify.VerifyError.TheVariants.{Found, OutOfMemory}
use Rattle.lsm_readers.specs.point.Answer.{filter_admits}
use Rattle.lsm_readers.specs.point.IndexKinds.{handles_result}
use Rattle.lsm_readers.specs.point.Meta.{Facts}
use Rattle.lsm_readers.specs.point.Parts.{Parts}
pub use Rattle.lsm_readers.specs.point.Read.{◌>>=◌}

-- ---- findings

abbrev pub finding : SectionName → ℕ → Fault → Finding
finding section offset fault = record { section = section; offset = offset; fault = fault }

-- An error is `OutOfMemory`, or the finding of this result.
abbrev pub Misses : {Y : Type 0} → VerifyError → Result Y Finding → Type 0
Misses e returned = (f : Finding) → e ≡ Found f → returned ≡ Err f

-- An error is a finding, not `OutOfMemory`.
abbrev pub is_found : VerifyError → Bool
is_found OutOfMemory = false
is_found (Found f) = true

-- Except for `OutOfMemory`, a call returns this result, its value seen through a view.
abbrev pub Finds : {X Y : Type 0} → (X → Y) → Result X VerifyError → Result Y Finding → Type 0
Finds view (Ok x) returned = returned ≡ Ok (view x)
Finds view (Err e) returned = Misses e returned

-- The error of a failed load: `OutOfMemory`, or a finding at its offset.
abbrev pub load_refusal : SectionName → ℕ → Error → VerifyError
load_refusal section offset error =
    if is_memory error then OutOfMemory
    else Found (finding section offset (fault.Unloaded error))

-- The result of a load, its error as a finding at the offset.
abbrev pub located : {X : Type 0} → SectionName → ℕ → Result X Error → Result X Finding
located section offset (Ok x) = Ok x
located section offset (Err e) = Err (finding section offset (fault.Unloaded e))

-- A passed test finds nothing; a failed one is this finding.
abbrev pub tested : Bool → Finding → Result (Unit {0}) Finding
tested passes f = if passes then Ok tt else Err f

-- ---- the counts left

-- The last entry read, and the counts left to read.
pub record Unread : Type 0 where
  pub last : Option Entry
  pub counts : Counts

-- A table with these facts, before anything is read.
abbrev pub unread_of : Facts → Unread
unread_of said = record {
  last = None;
  counts = record {
    blocks = said.data_block_count;
    size = said.file_size;
    items = said.item_count;
    tombstones = said.tombstone_count;
    weak = said.weak_tombstone_count;
    reclaimable = said.weak_tombstone_reclaimable;
    lowest = 2 ^ 64 - 1;
    highest = 0;
  };
}

-- The count left after some is read, or a meta mismatch if more is read than the meta block claims.
abbrev pub spent : ℕ → ItemName → ℕ → ℕ → Result ℕ Finding
spent meta item left by =
    if nat_lt left by then Err (finding section.Meta meta (fault.Unborne item)) else Ok (left - by)

-- ---- an entry in a data block, after the previous entry

-- Its seqno is below `u64::MAX`, and it follows the previous entry in order.
abbrev pub order_found : ℕ → Option Entry → Entry → Result (Unit {0}) Finding
order_found at last e =
    if nat_lt e.seqno (2 ^ 64 - 1)
    then tested (may_follow last e) (finding section.Data at fault.Unordered)
    else Err (finding section.Data at fault.TooHigh)

-- The table's first entry has the meta block's least key.
abbrev pub first_found : Parts → Option Entry → Entry → Result (Unit {0}) Finding
first_found parts (Some last) e = Ok tt
first_found parts None e = tested (same_key parts.facts.key_range.min e.user_key)
    (finding section.Meta parts.regions.metadata.offset (fault.Unborne item.KeyMin))

-- Whether the filter admits a key, by its blocks in the bytes.
abbrev pub admitted : List ℕ → Parts → List ℕ → Result Bool Error
admitted body parts key = (filter_admits body parts.pinned.filter_tops None parts.regions.filter key
    (hash_of key)).returned

abbrev pub asked_found : ℕ → Result Bool Error → Result (Unit {0}) Finding
asked_found at (Ok admits) = tested admits (finding section.Data at fault.Denied)
asked_found at (Err e) = Err (finding section.Data at (fault.Unfiltered e))

-- The filter admits an entry's key; this is tested once for each key.
abbrev pub key_found : List ℕ → Parts → ℕ → Option Entry → Entry → Result (Unit {0}) Finding
key_found body parts at last e =
    if starts_key last e then asked_found at (admitted body parts e.user_key) else Ok tt

-- The counts left after the entry.
unfoldable pub entry_spent : ℕ → Option Entry → Entry → Counts → Result Counts Finding
entry_spent meta last e counts =
    spent meta item.ItemCount counts.items 1 >>= λ items.
    spent meta item.TombstoneCount counts.tombstones (one_if (is_tombstone e)) >>= λ tombstones.
    spent meta item.WeakTombstoneCount counts.weak (one_if (is_weak e)) >>= λ weak.
    spent meta item.WeakTombstoneReclaimable counts.reclaimable (one_if (is_reclaimable last e))
    >>= λ reclaimable.
    Ok (record {
      blocks = counts.blocks;
      size = counts.size;
      items = items;
      tombstones = tombstones;
      weak = weak;
      reclaimable = reclaimable;
      lowest = min counts.lowest e.seqno;
      highest = max counts.highest e.seqno;
    })

-- The tests of an entry, and the counts left after it.
unfoldable pub entry_tested : List ℕ → Parts → ℕ → Unread → Entry → Result Counts Finding
entry_tested body parts at left e =
    order_found at left.last e >>= λ _.
    first_found parts left.last e >>= λ _.
    key_found body parts at left.last e >>= λ _.
    entry_spent parts.regions.metadata.offset left.last e left.counts

unfoldable pub entry_found : List ℕ → Parts → ℕ → Unread → Entry → Result Unread Finding
entry_found body parts at left e =
    entry_tested body parts at left e >>= λ counts. Ok (record { last = Some e; counts = counts })

unfoldable pub entries_found : List ℕ → Parts → ℕ → Unread → List Entry → Result Unread Finding
entries_found body parts at left [] = Ok left
entries_found body parts at left (e ∷ es) =
    entry_found body parts at left e >>= λ left. entries_found body parts at left es

-- ---- a data block and its handle

-- The handle's offset is where the block is expected.
abbrev pub place_found : ℕ → ℕ → Result (Unit {0}) Finding
place_found at offset =
    tested (offset == at) (finding section.Data offset fault.Misplaced)

unfoldable pub block_spent : ℕ → ℕ → Counts → Result Counts Finding
block_spent meta size counts =
    spent meta item.BlockCountData counts.blocks 1 >>= λ blocks.
    spent meta item.FileSize counts.size size >>= λ size.
    Ok (record counts { blocks = blocks; size = size })

-- A block has an entry.
abbrev pub some_found : ℕ → List Entry → Result (List Entry) Finding
some_found at [] = Err (finding section.Data at fault.Hollow)
some_found at (e ∷ es) = Ok (e ∷ es)

-- The entries of a data block.
abbrev pub chunk_found : List ℕ → Place → Result (List Entry) Finding
chunk_found body place =
    located section.Data place.offset (load_result body place.offset place.size Data) >>= λ block.
    some_found place.offset (entries_of block)

-- A handle carries this end key and this seqno.
abbrev pub end_named : SectionName → Handle → List ℕ → ℕ → Result (Unit {0}) Finding
end_named section h key seqno =
    if same_key h.end_key key
    then tested (h.seqno == seqno) (finding section h.offset fault.OtherNumber)
    else Err (finding section h.offset fault.OtherKey)

-- A handle carries the key and the seqno of its block's last entry.
abbrev pub last_named : SectionName → Handle → Option Entry → Result (Unit {0}) Finding
last_named section h None = Err (finding section h.offset fault.Hollow)
last_named section h (Some e) = end_named section h e.user_key e.seqno

-- The counts left after a data block, which starts where the previous one ended.
unfoldable pub counted_found : Parts → Counts → Place → Result Counts Finding
counted_found parts counts place =
    place_found (parts.facts.file_size - counts.size) place.offset >>= λ _.
    block_spent parts.regions.metadata.offset place.size counts

-- The entries of a handle's data block pass, and the handle matches the last of them.
unfoldable pub contents_found : List ℕ → Parts → Unread → Handle → List Entry
    → Result Unread Finding
contents_found body parts left h chunk =
    entries_found body parts h.offset left chunk >>= λ left.
    last_named section.Data h left.last >>= λ _.
    Ok left

-- The data block of a handle passes all tests.
unfoldable pub block_found : List ℕ → Parts → Unread → Handle → Result Unread Finding
block_found body parts left h =
    counted_found parts left.counts (place_of h) >>= λ counts.
    chunk_found body (place_of h) >>= λ chunk.
    contents_found body parts (record { last = left.last; counts = counts }) h chunk

unfoldable pub blocks_found : List ℕ → Parts → Unread → List Handle → Result Unread Finding
blocks_found body parts left [] = Ok left
blocks_found body parts left (h ∷ hs) =
    block_found body parts left h >>= λ left. blocks_found body parts left hs

-- ---- the index

-- The handles of an index block, or a finding at its offset.
abbrev pub handles_found : List ℕ → SectionName → Place → Result (List Handle) Finding
handles_found body section place = located section place.offset (handles_result body place)

-- A top-level handle matches the last handle of its partition.
abbrev pub top_named : Handle → List Handle → Result (Unit {0}) Finding
top_named top hs = last_named section.Index top (last_of None (map end_of hs))

-- The partition of a top-level handle, and then the data blocks of its handles.
unfoldable pub part_found : List ℕ → Parts → Unread → Handle → Result Unread Finding
part_found body parts left top =
    handles_found body section.Index (place_of top) >>= λ hs.
    top_named top hs >>= λ _.
    blocks_found body parts left hs

unfoldable pub parts_found : List ℕ → Parts → Unread → List Handle → Result Unread Finding
parts_found body parts left [] = Ok left
parts_found body parts left (top ∷ tops) =
    part_found body parts left top >>= λ left. parts_found body parts left tops

-- The data blocks of a full index, or those of the partitions below a top level.
abbrev pub named_found : List ℕ → Parts → Unread → Option Place → List Handle → Result Unread
    Finding
named_found body parts left None hs = blocks_found body parts left hs
named_found body parts left (Some section) tops = parts_found body parts left tops

unfoldable pub index_found : List ℕ → Parts → Unread → Result Unread Finding
index_found body parts left =
    handles_found body section.Tli parts.regions.tli >>= λ hs.
    named_found body parts left parts.regions.index hs

-- ---- the filter

-- A result whose value is dropped.
abbrev pub passed : {X : Type 0} → Result X Finding → Result (Unit {0}) Finding
passed (Ok x) = Ok tt
passed (Err f) = Err f

-- A filter block loads.
abbrev pub filter_found : List ℕ → Place → Result (Unit {0}) Finding
filter_found body place = passed
    (located section.Filter place.offset (load_result body place.offset place.size Filter))

unfoldable pub tops_found : List ℕ → List Handle → Result (Unit {0}) Finding
tops_found body [] = Ok tt
tops_found body (top ∷ tops) =
    filter_found body (place_of top) >>= λ _. tops_found body tops

-- Each filter block loads.
abbrev pub filters_by : List ℕ → Option (List Handle) → Option Place → Result (Unit {0}) Finding
filters_by body (Some tops) place = tops_found body tops
filters_by body None (Some place) = filter_found body place
filters_by body None None = Ok tt

abbrev pub filters_found : List ℕ → Parts → Result (Unit {0}) Finding
filters_found body parts = filters_by body parts.pinned.filter_tops parts.regions.filter

-- ---- the end

-- A number in the meta block equals the one that was read.
abbrev pub same_found : ℕ → ItemName → ℕ → ℕ → Result (Unit {0}) Finding
same_found meta item said read =
    tested (said == read) (finding section.Meta meta (fault.Unborne item))

-- A key in the meta block equals the one that was read.
abbrev pub key_same : ℕ → ItemName → List ℕ → List ℕ → Result (Unit {0}) Finding
key_same meta item said read =
    tested (same_key said read) (finding section.Meta meta (fault.Unborne item))

-- No count is left, and the lowest and highest seqno match those that were read.
unfoldable pub counts_found : Parts → Counts → Result (Unit {0}) Finding
counts_found parts counts =
    let meta = parts.regions.metadata.offset in
    same_found meta item.BlockCountData counts.blocks 0 >>= λ _.
    same_found meta item.FileSize counts.size 0 >>= λ _.
    same_found meta item.ItemCount counts.items 0 >>= λ _.
    same_found meta item.TombstoneCount counts.tombstones 0 >>= λ _.
    same_found meta item.WeakTombstoneCount counts.weak 0 >>= λ _.
    same_found meta item.WeakTombstoneReclaimable counts.reclaimable 0 >>= λ _.
    same_found meta item.SeqnoMin parts.facts.seqno_min counts.lowest >>= λ _.
    same_found meta item.SeqnoMax parts.facts.seqno_max counts.highest

-- No data block loads at offset 0.
abbrev pub unnamed_by : {X : Type 0} → Result X Error → Result (Unit {0}) Finding
unnamed_by (Ok block) = Err (finding section.Data 0 fault.Unnamed)
unnamed_by (Err e) = Ok tt

abbrev pub unnamed_found : List ℕ → Result (Unit {0}) Finding
unnamed_found body = unnamed_by (load_at_result body 0 Data)

-- The last entry has the meta block's greatest key. Without entries, both keys are empty and there
-- is no data block.
abbrev pub range_found : List ℕ → Parts → Option Entry → Result (Unit {0}) Finding
range_found body parts (Some e) =
    key_same parts.regions.metadata.offset item.KeyMax parts.facts.key_range.max e.user_key
range_found body parts None =
    key_same parts.regions.metadata.offset item.KeyMin parts.facts.key_range.min [] >>= λ _.
    key_same parts.regions.metadata.offset item.KeyMax parts.facts.key_range.max [] >>= λ _.
    unnamed_found body

unfoldable pub end_found : List ℕ → Parts → Unread → Result (Unit {0}) Finding
end_found body parts left =
    counts_found parts left.counts >>= λ _. range_found body parts left.last

-- ---- the whole

-- The counts that a table claims.
abbrev pub verified_of : Facts → Verified
verified_of said = record {
  data_block_count = said.data_block_count;
  item_count = said.item_count;
}

-- The index and the data blocks, and then the end.
unfoldable pub all_found : List ℕ → Parts → Result (Unit {0}) Finding
all_found body parts =
    index_found body parts (unread_of parts.facts) >>= λ left. end_found body parts left

-- The first fault in the bytes: in the filter, then the index and the data blocks in order, then at
-- the end.
unfoldable pub table_found : List ℕ → Parts → Result Verified Finding
table_found body parts =
    filters_found body parts >>= λ _.
    all_found body parts >>= λ _.
    Ok (verified_of parts.facts)

-- The finding that the file checksum does not match, reported at offset 0.
abbrev pub other_checksum : Finding
other_checksum = finding section.Data 0 fault.OtherChecksum

-- ---- before allocation

-- Such a finding is always returned, even where an allocation could fail.
abbrev pub FindsFirst : {X : Type 0} → Result X VerifyError → Option Finding → Type 0
FindsFirst result early = (f : Finding) → early ≡ Some f → IsErrAnd result (λ e. e ≡ Found f)

-- A load's error that precedes allocation, as a finding.
abbrev pub early_from : SectionName → ℕ → Option Error → Option Finding
early_from section offset None = None
early_from section offset (Some e) = Some (finding section offset (fault.Unloaded e))

-- The finding of a block that precedes allocation.
abbrev pub early_at : List ℕ → SectionName → Place → BlockType → Option Finding
early_at body section place kind =
    early_from section place.offset (place_fault body place.offset place.size kind)

-- The offsets and sizes of the filter blocks.
abbrev pub filter_places : Option (List Handle) → Option Place → List Place
filter_places (Some tops) place = map place_of tops
filter_places None (Some place) = place ∷ []
filter_places None None = []

-- The early finding of the first filter block, or else of the block after the filter.
abbrev pub early_filters : List ℕ → List Place → Option Finding → Option Finding
early_filters body [] behind = behind
early_filters body (place ∷ places) behind = early_at body section.Filter place Filter

-- The early finding of the first block read: of the filter, or else of the index.
abbrev pub table_early : List ℕ → Parts → Option Finding
table_early body parts =
    early_filters body (filter_places parts.pinned.filter_tops parts.regions.filter)
    (early_at body section.Tli parts.regions.tli Index)

-- Verification by steps: the blocks left to read, the first fault there, and the number of steps.
use Rattle.std.specs.Prelude.{◌≡◌, ℕ, ◌+◌, ◌-◌, List, [], ◌∷◌, drop, length, Option, Some, None}
use Rattle.std.specs.Prelude.{Result, Ok, Err}
use Rattle.sst_blocks.specs.declared.block_type.BlockType.TheVariants.{Data, Filter, Index}
use Rattle.sst_blocks.specs.Block.{position_fault}
use Rattle.sst_blocks.specs.declared.table.item_name.ItemName.TheVariants as item
use Rattle.sst_entries.specs.declared.error.Error.{Error}
use Rattle.sst_entries.specs.Entry.{Entry}
use Rattle.sst_blocks.specs.Sections.{body_of}
use Rattle.sst_blocks.specs.declared.section.SectionName.TheVariants as section
use Rattle.sst_blocks.specs.Handle.{Handle}
use Rattle.sst_blocks.specs.Place.{Place, place_of}
use Rattle.lsm_readers.specs.declared.verify.Counts.{Counts}
use Rattle.lsm_readers.specs.declared.verify.Finding.{Finding}
use Rattle.lsm_readers.specs.declared.verify.Verified.{Verified}
use Rattle.lsm_readers.specs.declared.verify.steps.Stage.{Stage}
use Rattle.lsm_readers.specs.declared.verify.steps.Stage.TheVariants as stage
use Rattle.lsm_readers.specs.point.Parts.{Parts}
use Rattle.lsm_readers.specs.point.Table.{OpenTable}
use Rattle.lsm_readers.specs.Verify.{◌>>=◌, Unread, block_found, blocks_found, counted_found}
use Rattle.lsm_readers.specs.Verify.{counts_found}
use Rattle.lsm_readers.specs.Verify.{early_at, end_found, filter_found, filter_places}
use Rattle.lsm_readers.specs.Verify.{handles_found, index_found, key_same, parts_found, passed}
use Rattle.lsm_readers.specs.Verify.{table_found, top_named, unread_of, verified_of}

-- ---- the blocks left to read

-- The filter blocks left, and then the index; or the data blocks and the index partitions left.
pub data Ahead : Type 0 where
  before_index : (places : List Place) → Ahead
  in_index : (handles : List Handle) (tops : List Handle) → Ahead

-- The handles of a table's filter blocks.
abbrev pub places_in : Parts → List Place
places_in parts = filter_places parts.pinned.filter_tops parts.regions.filter

-- The filter blocks from this one on, with all that follows them.
abbrev pub filters_from : Parts → ℕ → Ahead
filters_from parts index = before_index (drop index (places_in parts))

abbrev pub ahead_of : {A : Type 0} → Parts → Stage A → Ahead
ahead_of parts (stage.Filter index) = before_index (drop index (places_in parts))
ahead_of parts (stage.Index handles tops) = in_index handles tops

-- ---- the first fault there

-- Each of these filter blocks loads.
unfoldable pub places_found : List ℕ → List Place → Result (Unit {0}) Finding
places_found body [] = Ok tt
places_found body (place ∷ places) =
    filter_found body place >>= λ _. places_found body places

-- The result at the end, once the index was read.
abbrev pub ended_found : List ℕ → Parts → Result Unread Finding → Result Verified Finding
ended_found body parts read =
    (read >>= λ left. end_found body parts left) >>= λ _. Ok (verified_of parts.facts)

-- The handles of a partition, whose top-level handle matches the last one.
unfoldable pub partition_found : List ℕ → Handle → Result (List Handle) Finding
partition_found body top =
    handles_found body section.Index (place_of top) >>= λ handles.
    top_named top handles >>= λ _.
    Ok handles

-- The first fault in the blocks left, or the counts of the table.
unfoldable pub rest_found : List ℕ → Parts → Ahead → Unread → Result Verified Finding
rest_found body parts (before_index places) left =
    places_found body places >>= λ _. ended_found body parts (index_found body parts left)
rest_found body parts (in_index handles tops) left =
    ended_found body parts
    (blocks_found body parts left handles >>= λ left. parts_found body parts left tops)

-- ---- the number of steps

abbrev pub count_told : Result (List Handle) Finding → ℕ
count_told (Ok handles) = length handles
count_told (Err f) = 0

-- One step for each partition, and one for each data block of its handles.
abbrev pub parts_steps : List ℕ → List Handle → ℕ
parts_steps body [] = 0
parts_steps body (top ∷ tops) =
    1 + count_told (handles_found body section.Index (place_of top)) + parts_steps body tops

-- The steps after the block of a full index, or after a top level.
abbrev pub named_steps : List ℕ → Option Place → Result (List Handle) Finding → ℕ
named_steps body index (Err f) = 0
named_steps body None (Ok handles) = length handles
named_steps body (Some section) (Ok tops) = parts_steps body tops

-- The number of blocks left to read, which bounds the steps until a fault is found.
unfoldable pub steps_left : List ℕ → Parts → Ahead → ℕ
steps_left body parts (before_index places) =
    length places + 1 + named_steps body parts.regions.index
    (handles_found body section.Tli parts.regions.tli)
steps_left body parts (in_index handles tops) = length handles + parts_steps body tops

-- ---- a step

-- The blocks that the index names: data blocks, or partitions for a top level.
abbrev pub index_ahead : Option Place → List Handle → Ahead
index_ahead None handles = in_index handles []
index_ahead (Some section) tops = in_index [] tops

-- A step reads the next block without a fault and leaves the others. Only a data block changes the
-- counts.
abbrev pub ReadsNext : List ℕ → Parts → Ahead → Unread → Ahead → Unread → Type 0
ReadsNext body parts (before_index (place ∷ places)) before new after =
    (filter_found body place ≡ Ok tt) × (new ≡ before_index places) × (after ≡ before)
ReadsNext body parts (before_index []) before new after =
    (handles : List Handle) × (handles_found body section.Tli parts.regions.tli ≡ Ok handles)
    × (new ≡ index_ahead parts.regions.index handles) × (after ≡ before)
ReadsNext body parts (in_index (h ∷ handles) tops) before new after =
    (block_found body parts before h ≡ Ok after) × (new ≡ in_index handles tops)
ReadsNext body parts (in_index [] (top ∷ tops)) before new after =
    (handles : List Handle) × (partition_found body top ≡ Ok handles)
    × (new ≡ in_index handles tops) × (after ≡ before)
ReadsNext body parts (in_index [] []) before new after = ⊥

-- The first fault in the next block and its handle, or at the end if no block is left.
abbrev pub next_found : List ℕ → Parts → Ahead → Unread → Result (Unit {0}) Finding
next_found body parts (before_index (place ∷ places)) left = filter_found body place
next_found body parts (before_index []) left =
    passed (handles_found body section.Tli parts.regions.tli)
next_found body parts (in_index (h ∷ handles) tops) left = passed (block_found body parts left h)
next_found body parts (in_index [] (top ∷ tops)) left = passed (partition_found body top)
next_found body parts (in_index [] []) left = end_found body parts left

-- The size of the next data block, or 0 if the next block is of another type.
abbrev pub next_size : Ahead → ℕ
next_size (before_index places) = 0
next_size (in_index (h ∷ handles) tops) = h.size
next_size (in_index [] tops) = 0

-- A step read one block: the first fault is in the blocks left, and one step fewer is left.
pub record GoesOne (body : List ℕ) (parts : Parts) (old : Ahead) (before : Unread) (new : Ahead)
    (after : Unread) : Type 0 where
  pub rest : rest_found body parts new after ≡ rest_found body parts old before
  pub steps : steps_left body parts old ≡ 1 + steps_left body parts new
  pub reads : ReadsNext body parts old before new after
  pub sizes : before.counts.size ≡ next_size old + after.counts.size

-- ---- before allocation

-- The fault of a test, or else the next fault.
abbrev pub found_or : {X : Type 0} → Result X Finding → Option Finding → Option Finding
found_or (Ok x) behind = behind
found_or (Err f) behind = Some f

-- The faults at the end that precede allocation: all except for a data block that no handle names.
abbrev pub last_early : Parts → Option Entry → Option Finding
last_early parts (Some e) =
    let meta = parts.regions.metadata.offset in
    found_or (key_same meta item.KeyMax parts.facts.key_range.max e.user_key) None
last_early parts None =
    let meta = parts.regions.metadata.offset in
    found_or (key_same meta item.KeyMin parts.facts.key_range.min [])
    (found_or (key_same meta item.KeyMax parts.facts.key_range.max []) None)

abbrev pub end_early : Parts → Unread → Option Finding
end_early parts left = found_or (counts_found parts left.counts) (last_early parts left.last)

-- The faults of a data block that precede allocation: it is not contiguous, the meta block claims
-- fewer blocks or bytes, or its load fails.
abbrev pub chunk_early : List ℕ → Parts → Counts → Place → Option Finding
chunk_early body parts counts place =
    found_or (counted_found parts counts place) (early_at body section.Data place Data)

-- The faults of the next block, or at the end, that precede allocation.
abbrev pub step_early : List ℕ → Parts → Ahead → Unread → Option Finding
step_early body parts (before_index (place ∷ places)) left =
    early_at body section.Filter place Filter
step_early body parts (before_index []) left =
    early_at body section.Tli parts.regions.tli Index
step_early body parts (in_index (h ∷ handles) tops) left =
    chunk_early body parts left.counts (place_of h)
step_early body parts (in_index [] (top ∷ tops)) left =
    early_at body section.Index (place_of top) Index
step_early body parts (in_index [] []) left = end_early parts left

-- The end does not allocate: an entry was read, or loading offset 0 fails before allocating.
abbrev pub EndsCalmly : List ℕ → Option Entry → Type 0
EndsCalmly body (Some e) = Unit {0}
EndsCalmly body None = (e : Error) × (position_fault body 0 Data ≡ Some e)

-- A step does not allocate: no block is left, and the end does not allocate.
abbrev pub StepsCalmly : List ℕ → Ahead → Unread → Type 0
StepsCalmly body (before_index places) left = ⊥
StepsCalmly body (in_index (h ∷ handles) tops) left = ⊥
StepsCalmly body (in_index [] (top ∷ tops)) left = ⊥
StepsCalmly body (in_index [] []) left = EndsCalmly body left.last

-- ---- the end of the steps

-- No block is left to read, and there is no fault at the end.
pub record IsThrough (body : List ℕ) (parts : Parts) (old : Ahead) (before : Unread) : Type 0 where
  pub rest : rest_found body parts old before ≡ Ok (verified_of parts.facts)
  pub steps : steps_left body parts old ≡ 0

-- ---- a verification

-- The table, the blocks left to read, and the counts left.
pub record Verifying : Type 0 where
  pub table : OpenTable
  pub ahead : Ahead
  pub left : Unread

-- The first fault in the blocks left is the first fault of the whole table.
abbrev pub IsOfTable : OpenTable → Ahead → Unread → Type 0
IsOfTable t ahead left =
    rest_found (body_of t.bytes) t.parts ahead left ≡ table_found (body_of t.bytes) t.parts

-- A verification before its first step.
abbrev pub verifying : OpenTable → Verifying
verifying t = record {
  table = t;
  ahead = before_index (places_in t.parts);
  left = unread_of t.parts.facts;
}

-- The number of steps left before the last.
abbrev pub steps_of : Verifying → ℕ
steps_of v = steps_left (body_of v.table.bytes) v.table.parts v.ahead

-- The total size of the data blocks that were read.
abbrev pub bytes_read : Verifying → ℕ
bytes_read v = v.table.parts.facts.file_size - v.left.counts.size

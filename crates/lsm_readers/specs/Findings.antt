-- The state of a verification up to some block, and the first fault found there.
use Rattle.std.specs.Prelude.{◌≡◌, ℕ, ◌+◌, ◌-◌, ◌^◌, ◌<◌, List, [], ◌∷◌, ◌++◌, length, count_by}
use Rattle.std.specs.Prelude.{max, min, sum_by, Option, Some, None, Ok, Err}
use Rattle.std.specs.List.{AllByRecursion, AllZip}
use Rattle.sst_blocks.specs.declared.section.SectionName.TheVariants as section
use Rattle.sst_entries.specs.Entry.{Entry}
use Rattle.sst_entries.specs.Strict.{IsStrictAfter, last_of}
use Rattle.sst_blocks.specs.Handle.{Handle}
use Rattle.sst_blocks.specs.Place.{Place, place_of}
use Rattle.sst_blocks.specs.table.Chunks.{joined}
use Rattle.sst_blocks.specs.table.Facts.{count_after, highest_seqno, is_reclaimable, is_tombstone}
use Rattle.sst_blocks.specs.table.Facts.{is_weak, lowest_seqno}
use Rattle.sst_blocks.specs.table.Filters.{keys_after}
use Rattle.sst_blocks.specs.table.Parts.{joined_parts}
use Rattle.lsm_readers.specs.declared.verify.Counts.{Counts}
use Rattle.lsm_readers.specs.declared.verify.Finding.{Finding}
use Rattle.lsm_readers.specs.point.IndexKinds.{handles_result}
use Rattle.lsm_readers.specs.point.Parts.{Parts}
use Rattle.lsm_readers.specs.Stored.{Admits, AreLaid, IndexHas, NamesChunk, NamesPart}
use Rattle.lsm_readers.specs.Verify.{◌>>=◌, Unread, block_found, end_found, filters_found}
use Rattle.lsm_readers.specs.Verify.{handles_found, top_named, unread_of}

-- If this entry is the table's first, its key is the meta block's least key.
abbrev pub IsFirst : Parts → Option Entry → Entry → Type 0
IsFirst parts None e = parts.facts.key_range.min ≡ e.user_key
IsFirst parts (Some last) e = Unit {0}

-- If the first of these entries is the table's first, its key is the meta block's least key.
abbrev pub StartsAt : Parts → Option Entry → List Entry → Type 0
StartsAt parts last [] = Unit {0}
StartsAt parts last (e ∷ es) = IsFirst parts last e

-- The counts before and after reading some entries.
pub record Spends (before : Option Entry) (old : Counts) (es : List Entry) (new : Counts)
    : Type 0 where
  pub items : old.items ≡ length es + new.items
  pub tombstones : old.tombstones ≡ count_by is_tombstone es + new.tombstones
  pub weak : old.weak ≡ count_by is_weak es + new.weak
  pub reclaimable : old.reclaimable ≡ count_after is_reclaimable before es + new.reclaimable
  pub lowest : new.lowest ≡ min old.lowest (lowest_seqno es)
  pub highest : new.highest ≡ max old.highest (highest_seqno es)

-- Some entries were read: they are in order, not excluded by the filter, and counted.
pub record Reads (body : List ℕ) (parts : Parts) (old : Unread) (es : List Entry) (new : Unread)
    : Type 0 where
  pub strict : IsStrictAfter old.last es
  pub numbers : AllByRecursion (λ (e : Entry). e.seqno < 2 ^ 64 - 1) es
  pub admits : AllByRecursion (Admits body parts.pinned.filter_tops parts.regions.filter)
      (keys_after old.last es)
  pub first : StartsAt parts old.last es
  pub last : new.last ≡ last_of old.last es
  pub spends : Spends old.last old.counts es new.counts

-- The data blocks of some handles were read: they are contiguous, and each handle matches its
-- block.
pub record ReadsBlocks (body : List ℕ) (parts : Parts) (old : Unread) (hs : List Handle)
    (new : Unread) : Type 0 where
  pub chunks : List (List Entry)
  pub named : AllZip (NamesChunk body) hs chunks
  pub laid : AreLaid (parts.facts.file_size - old.counts.size) hs
  pub reads : Reads body parts old (joined chunks) new
  pub blocks : old.counts.blocks ≡ length hs + new.counts.blocks
  pub sizes : old.counts.size ≡ sum_by (λ (h : Handle). h.size) hs + new.counts.size

-- ---- the order of the index

-- In a top level, this partition's handle follows those of partitions that together have these data
-- block handles.
pub record ComesBehindParts (body : List ℕ) (place : Place) (front : List Handle) (top : Handle)
    : Type 0 where
  pub tops : List Handle
  pub others : List Handle
  pub parts : List (List Handle)
  pub returned : handles_result body place ≡ Ok (tops ++ top ∷ others)
  pub named : AllZip (NamesPart body) tops parts
  pub whole : joined_parts parts ≡ front

-- A data block's handle is in some partition. These are all data block handles before it.
pub record ComesWithin (body : List ℕ) (place : Place) (front : List Handle) (h : Handle)
    : Type 0 where
  pub before : List Handle
  pub within : List Handle
  pub others : List Handle
  pub top : Handle
  pub part : ComesBehindParts body place before top
  pub named : NamesPart body top (within ++ h ∷ others)
  pub whole : before ++ within ≡ front

-- In the order of the index, a data block's handle comes directly after these.
abbrev pub BlockComes : List ℕ → Option Place → Place → List Handle → Handle → Type 0
BlockComes body None tli front h =
    (others : List Handle) × (handles_result body tli ≡ Ok (front ++ h ∷ others))
BlockComes body (Some section) tli front h = ComesWithin body tli front h

-- In the order of the index, a partition's handle comes directly after these data block handles.
abbrev pub PartComes : List ℕ → Option Place → Place → List Handle → Handle → Type 0
PartComes body None tli front top = ⊥
PartComes body (Some section) tli front top = ComesBehindParts body tli front top

-- ---- a finding

-- This is the first fault, and everything read before it is valid. It is in a filter block, the
-- index block, a partition, a data block, or at the end.
pub data IsFirstFinding (body : List ℕ) (parts : Parts) (f : Finding) : Type 0 where
  in_filter : filters_found body parts ≡ Err f → IsFirstFinding body parts f
  in_index : filters_found body parts ≡ Ok tt
      → handles_found body section.Tli parts.regions.tli ≡ Err f → IsFirstFinding body parts f
  in_part : filters_found body parts ≡ Ok tt → (front : List Handle) (left : Unread) (top : Handle)
      → PartComes body parts.regions.index parts.regions.tli front top
      → ReadsBlocks body parts (unread_of parts.facts) front left
      → (handles_found body section.Index (place_of top) >>= top_named top) ≡ Err f
      → IsFirstFinding body parts f
  in_block : filters_found body parts ≡ Ok tt → (front : List Handle) (left : Unread) (h : Handle)
      → BlockComes body parts.regions.index parts.regions.tli front h
      → ReadsBlocks body parts (unread_of parts.facts) front left
      → block_found body parts left h ≡ Err f → IsFirstFinding body parts f
  at_end : filters_found body parts ≡ Ok tt → (handles : List Handle) (left : Unread)
      → IndexHas body parts.regions.index parts.regions.tli handles
      → ReadsBlocks body parts (unread_of parts.facts) handles left
      → end_found body parts left ≡ Err f → IsFirstFinding body parts f

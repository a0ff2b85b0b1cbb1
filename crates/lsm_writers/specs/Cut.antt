-- The data blocks cut so far, and the chunks that their bytes encode.
use Rattle.std.specs.Prelude.{◌≡◌, ℕ, zero, suc, ◌+◌, ◌*◌, ◌<◌, ◌≤◌, ◌^◌, Bool, false, List, []}
use Rattle.std.specs.Prelude.{◌∷◌, ◌++◌, length, take, drop, Option, Some, None, unwrap_or, sum_by}
use Rattle.std.specs.List.{AllByRecursion}
use Rattle.sst_blocks.specs.declared.version.TableVersion.{TableVersion}
use Rattle.sst_blocks.specs.declared.version.TableVersion.TheVariants.{V4}
use Rattle.sst_blocks.specs.declared.section.SectionName.TheVariants.{Data}
use Rattle.sst_blocks.specs.Block.{data_len, header_len}
use Rattle.sst_blocks.specs.Bounds.{entry_head_len}
use Rattle.sst_entries.specs.Entry.{Entry}
use Rattle.sst_blocks.specs.Handle.{Handle}
use Rattle.sst_blocks.specs.Payload.{payload}
use Rattle.sst_blocks.specs.Reading.{entries_in}
use Rattle.sst_blocks.specs.Sections.{Written}
use Rattle.sst_entries.specs.Strict.{IsStrict, last_of}
use Rattle.lsm_writers.specs.declared.writer.meta.Metadata.{Metadata}
use Rattle.lsm_writers.specs.section.Registered.{Registered}
use Rattle.sst_blocks.specs.table.Chunks.{joined}
use Rattle.sst_blocks.specs.table.Facts.{last_key}
use Rattle.sst_blocks.specs.table.Index.{handles, data_section, last_entry}

-- the chunks of the blocks cut so far, and whether a cut failed
pub record Cut : Type 0 where
  pub chunks : List (List Entry)
  pub failed : Bool

-- the chunks decoded from the first n blocks of some bytes
unfoldable pub chunks_in : TableVersion → ℕ → List ℕ → List (List Entry)
chunks_in v zero bytes = []
chunks_in v (suc n) bytes =
    unwrap_or (entries_in v (take (data_len bytes) (drop header_len bytes))) []
    ∷ chunks_in v n (drop (header_len + data_len bytes) bytes)

-- a nonempty chunk that its block decodes to
pub record IsReadable (v : TableVersion) (c : List Entry) : Type 0 where
  pub some : 0 < length c
  pub reads : entries_in v (payload v c) ≡ Some c
  pub short : header_len + length (payload v c) < 2 ^ 32
  pub wide : entry_head_len * length c ≤ length (payload v c)

-- the bytes are the blocks of these chunks, and the index has their handles; further bytes follow
-- only after a failed registration
pub record AreCut (chunks : List (List Entry)) (w : Written) (hs : List Handle)
    (last : Option Entry) (failed : Bool) : Type 0 where
  pub rest : List ℕ
  pub bytes : w.bytes ≡ data_section V4 chunks ++ rest
  pub whole : failed ≡ false → rest ≡ []
  pub started : w.started ≡ (Data, 0) ∷ []
  pub readable : AllByRecursion (IsReadable V4) chunks
  pub index : hs ≡ handles V4 chunks
  pub strict : IsStrict (joined chunks)
  pub last_is : last ≡ last_of None (joined chunks)

-- the same for the handles and the failure flag of an index writer
abbrev pub AreCutBy : List (List Entry) → Written → Registered → Option Entry → Type 0
AreCutBy chunks w index last = AreCut chunks w index.handles last index.failed

-- a block of these entries follows those cut so far, if the list stays strict
abbrev pub AddsChunk : Written → Registered → List Entry → Written → Registered → Type 0
AddsChunk w index es w' index' = (chunks : List (List Entry)) → (before : Option Entry) →
    AreCutBy chunks w index before → IsStrict (joined chunks ++ es) →
    AreCutBy (chunks ++ es ∷ []) w' index' (Some (last_entry es))

-- the blocks cut so far stay
abbrev pub LeavesChunks : Written → Registered → Written → Registered → Type 0
LeavesChunks w index w' index' = (chunks : List (List Entry)) → (before : Option Entry) →
    AreCutBy chunks w index before → AreCutBy chunks w' index' before

-- these entries can be cut as the next block
pub record CanCut (w : Written) (hs : List Handle) (failed : Bool) (es : List Entry) : Type 0 where
  pub chunks : List (List Entry)
  pub last : Option Entry
  pub are : AreCut chunks w hs last failed
  pub works : failed ≡ false
  pub strict : IsStrict (joined chunks ++ es)

-- the rest as one chunk, or no chunk if it is empty
abbrev pub rest_chunk : List Entry → List (List Entry)
rest_chunk [] = []
rest_chunk (e ∷ es) = (e ∷ es) ∷ []

-- the counts, with the counts of blocks set to those of these chunks
abbrev pub with_cut : {A : Type 0} → List (List Entry) → Metadata A → Metadata A
with_cut cs m = record m {
  data_block_count = length cs;
  item_count = length (joined cs);
  file_pos = record { 0 = length (data_section V4 cs) };
  uncompressed_size = sum_by (λ c. length (payload V4 c)) cs;
  last_key = last_key (joined cs);
}

-- the counts of blocks are those of these chunks
pub record CountsCut {A : Type 0} (cs : List (List Entry)) (m : Metadata A) : Type 0 where
  pub are : m ≡ with_cut cs m

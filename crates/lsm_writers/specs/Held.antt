-- The invariants of a writer's parts between its calls.
use Rattle.std.specs.Prelude.{◌≡◌, ℕ, ◌+◌, ◌*◌, ◌<◌, ◌^◌, Bool, true, false, List, [], ◌∷◌, ◌++◌}
use Rattle.std.specs.Prelude.{length, take, Option}
use Rattle.std.specs.List.{AllByRecursion}
use Rattle.sst_blocks.specs.declared.version.TableVersion.TheVariants.{V4}
use Rattle.sst_blocks.specs.Bounds.{empty_len, entry_head_len}
use Rattle.sst_entries.specs.Entry.{Entry}
use Rattle.sst_entries.specs.Strict.{IsStrict}
use Rattle.sst_blocks.specs.declared.section.SectionName.TheVariants.{Data}
use Rattle.sst_blocks.specs.Sections.{Written}
use Rattle.lsm_writers.specs.declared.writer.meta.Metadata.{Metadata}
use Rattle.sst_blocks.specs.table.Chunks.{joined, entries_size, is_full}
use Rattle.sst_blocks.specs.table.Filters.{filtered_keys}
use Rattle.sst_blocks.specs.table.Fits.{BlockFits, EntryFits}
use Rattle.sst_blocks.specs.table.Index.{data_section, handles}
use Rattle.sst_blocks.specs.table.Layout.{laid}
use Rattle.sst_blocks.specs.declared.table.options.Options.{Options}
use Rattle.lsm_writers.specs.declared.section.index_either.IndexWriterImpl.{IndexWriterImpl}
use Rattle.lsm_writers.specs.section.IndexEither.{registered_by}
use Rattle.lsm_writers.specs.declared.section.filter_either.FilterWriterImpl.{FilterWriterImpl}
use Rattle.lsm_writers.specs.Counts.{HasShortKeys, metadata_of}
use Rattle.lsm_writers.specs.Cut.{Cut, with_cut}
use Rattle.lsm_writers.specs.Filtering.{MayHaveKeys}
use Rattle.lsm_writers.specs.Writing.{Writing, cut_writing}
use Rattle.sst_blocks.specs.declared.table.label.Label.{Label}

-- a nonempty chunk of which no proper nonempty prefix is full
pub record IsShortest (size : ℕ) (c : List Entry) : Type 0 where
  pub some : 0 < length c
  pub shortest : (n : ℕ) → 0 < n → n < length c → is_full size (take n c) ≡ false

-- there are no pending entries, or they are not full
abbrev pub IsUnfilled : ℕ → List Entry → Type 0
IsUnfilled size [] = Unit {0}
IsUnfilled size (e ∷ es) = is_full size (e ∷ es) ≡ false

-- unless a call failed, no cut failed and the pending entries are not full
pub record CanGoOn (failed : Bool) (size : ℕ) (cut : Cut) (pending : List Entry) : Type 0 where
  pub works : failed ≡ false → cut.failed ≡ false
  pub room : failed ≡ false → IsUnfilled size pending

-- the list is strict, its entries fit, no proper prefix of a chunk is full, and the counts are
-- right
pub record IsHeld {A : Type 0} (size : ℕ) (cut : List (List Entry)) (pending : List Entry)
    (chunk_size : ℕ) (meta : Metadata A) : Type 0 where
  pub strict : IsStrict (joined cut ++ pending)
  pub fits : AllByRecursion (EntryFits V4) (joined cut ++ pending)
  pub shortest : AllByRecursion (IsShortest size) cut
  pub front : (n : ℕ) → 0 < n → n < length pending → is_full size (take n pending) ≡ false
  pub counted : meta ≡ metadata_of V4 cut pending
  pub sized : chunk_size ≡ entries_size pending
  pub small : empty_len + entry_head_len * length pending + chunk_size < 2 ^ 32

-- the pending entries, their size, the blocks and the counts after one more entry; the entries are
-- cut if the flag is set
abbrev pub IsTaken : {A : Type 0} → Bool → List Entry → Cut → Metadata A → List Entry → ℕ → Cut
    → Metadata A → Type 0
IsTaken false chunk cut meta pending size cut' meta' =
    (pending ≡ chunk) × (size ≡ entries_size chunk) × (cut' ≡ cut) × (meta' ≡ meta)
IsTaken true chunk cut meta pending size cut' meta' =
    (pending ≡ []) × (size ≡ 0) × (cut'.chunks ≡ cut.chunks ++ chunk ∷ [])
    × (cut'.failed ≡ false) × (meta' ≡ with_cut cut'.chunks meta)

-- the same, cut if the entries are full at this size
abbrev pub IsTakenWhenFull : {A : Type 0} → ℕ → List Entry → Cut → Metadata A → List Entry → ℕ
    → Cut → Metadata A → Type 0
IsTakenWhenFull full_at chunk = IsTaken (is_full full_at chunk) chunk

-- the parts from which a table is finished: data section, index, filter and counts of these chunks
pub record AreTableParts {A : Type 0} (options : Options) (cut : List (List Entry))
    (front : Written) (index : IndexWriterImpl A) (filter : Option (FilterWriterImpl A))
    (meta : Metadata A) : Type 0 where
  pub laid_first : front ≡ laid ((Data, data_section V4 cut) ∷ [])
  pub kind : (registered_by index).kind ≡ options.index_kind
  pub handles_are : (registered_by index).handles ≡ handles V4 cut
  pub works : (registered_by index).failed ≡ false
  pub keys : MayHaveKeys options.filter_kind options.bloom_policy filter
      (filtered_keys options.bloom_policy (joined cut))
  pub counted : meta ≡ metadata_of V4 cut []
  pub short : HasShortKeys meta
  pub blocks : AllByRecursion (BlockFits V4) cut

-- if these are the parts of a table, this holds of the writer that cut its chunks
abbrev pub ForTableParts : {A : Type 0} → Label → Options → Written → IndexWriterImpl A
    → Option (FilterWriterImpl A) → Metadata A → (Writing → Type 0) → Type 0
ForTableParts label options front index filter meta P = (cut : List (List Entry)) →
    AreTableParts options cut front index filter meta → P (cut_writing label options cut)

-- these are the parts of a table for some chunks
pub record HaveParts {A : Type 0} (options : Options) (front : Written) (index : IndexWriterImpl A)
    (filter : Option (FilterWriterImpl A)) (meta : Metadata A) : Type 0 where
  pub cut : List (List Entry)
  pub are : AreTableParts options cut front index filter meta

-- No meta block was started once the index, the filter and the version were written.
use Rattle.std.proofs.Common.{◌≡◌, sym, subst, ℕ, ◌+◌, List, [], ◌∷◌, length}
use Rattle.std.specs.Prelude.{All}
use Rattle.std.proofs.lemmas.List.Elements.{All-append, All-nil, All-cons}
use Rattle.sst_blocks.specs.declared.section.SectionName.{SectionName}
use Rattle.sst_blocks.specs.declared.section.SectionName.TheVariants.{Data, Index, Tli, Filter}
use Rattle.sst_blocks.specs.declared.section.SectionName.TheVariants.{FilterTli, TableVersion}
use Rattle.sst_blocks.specs.declared.version.TableVersion.TheVariants.{V4}
use Rattle.sst_blocks.specs.Sections.{Written, slot_index}
use Rattle.sst_blocks.specs.Handle.{Handle}
use Rattle.sst_blocks.specs.filter.Filter.{BloomFilter}
use Rattle.std.specs.List.{flat_map}
use Rattle.sst_blocks.specs.table.Filters.{filter_block}
use Rattle.sst_blocks.specs.table.Partitions.{handles_block}
use Rattle.sst_blocks.specs.declared.filter.policy.BloomConstructionPolicy.{BloomConstructionPolicy}
use Rattle.sst_blocks.specs.table.File.{HasNoMeta, HasNoVersion, version_section}
use Rattle.sst_blocks.specs.table.Kinds.{index_sections, filter_parts, filter_sections}
use Rattle.sst_blocks.specs.table.Layout.{appended, laid, starts_from}
use Rattle.lsm_writers.specs.section.Writing.{WritesFilter}
use Rattle.sst_blocks.specs.declared.table.options.FilterKind.{FilterKind}
use Rattle.sst_blocks.specs.declared.table.options.FilterKind.TheVariants.{Full as FullFilter}
use Rattle.sst_blocks.specs.declared.table.options.FilterKind.TheVariants.{
  Partitioned as PartitionedFilter,
}
use Rattle.sst_blocks.specs.declared.table.options.IndexKind.{IndexKind}
use Rattle.sst_blocks.specs.declared.table.options.IndexKind.TheVariants.{Full as FullIndex}
use Rattle.sst_blocks.specs.declared.table.options.IndexKind.TheVariants.{
  Partitioned as PartitionedIndex,
}

index_starts : (P : SectionName × ℕ → Type 0) (k : IndexKind) (at from : ℕ) (hs : List Handle)
    (parts : List (List Handle)) → ((n : ℕ) → P (Index, n)) → ((n : ℕ) → P (Tli, n))
    → All P (starts_from from (index_sections k V4 at hs parts))
index_starts P FullIndex at from hs parts i t = All-cons P (Tli, from) [] (t from) (All-nil P)
index_starts P (PartitionedIndex size) at from hs parts i t = let n =
    from + length (flat_map (handles_block V4) parts) in
    All-cons P (Index, from) ((Tli, n) ∷ []) (i from) (All-cons P (Tli, n) [] (t n) (All-nil P))

filter_starts : (P : SectionName × ℕ → Type 0) (k : FilterKind) (at from : ℕ)
    (parts : List (List (List ℕ))) (fs : List BloomFilter) → ((n : ℕ) → P (Filter, n))
    → ((n : ℕ) → P (FilterTli, n)) → All P (starts_from from (filter_sections k V4 at parts fs))
filter_starts P FullFilter at from parts [] f t = All-nil P
filter_starts P FullFilter at from parts (x ∷ fs) f t =
    All-cons P (Filter, from) [] (f from) (All-nil P)
filter_starts P (PartitionedFilter size) at from parts [] f t = All-nil P
filter_starts P (PartitionedFilter size) at from parts (x ∷ fs) f t = let n =
    from + length (flat_map (filter_block V4) (x ∷ fs)) in
    All-cons P (Filter, from) ((FilterTli, n) ∷ []) (f from)
    (All-cons P (FilterTli, n) [] (t n) (All-nil P))

abbrev NoMetaAt : SectionName × ℕ → Type 0
NoMetaAt s = slot_index s.0 ≡ 6 → ⊥

pub no_meta_behind_index : (w : Written) (k : IndexKind) (at : ℕ) (hs : List Handle)
    (parts : List (List Handle)) → HasNoMeta w → HasNoMeta
    (appended w (index_sections k V4 at hs parts))
no_meta_behind_index w k at hs parts h = All-append NoMetaAt w.started _ h
    (index_starts NoMetaAt k at _ hs parts (λ n e. absurd cc) (λ n e. absurd cc))

pub no_meta_behind_filter : (w : Written) (k : FilterKind) (at : ℕ) (parts : List (List (List ℕ)))
    (fs : List BloomFilter) → HasNoMeta w → HasNoMeta
    (appended w (filter_sections k V4 at parts fs))
no_meta_behind_filter w k at parts fs h = All-append NoMetaAt w.started _ h
    (filter_starts NoMetaAt k at _ parts fs (λ n e. absurd cc) (λ n e. absurd cc))

-- the version behind all of them
pub no_meta_behind_version : (w : Written) → HasNoMeta w
    → HasNoMeta (appended w (version_section V4))
no_meta_behind_version w h = All-append NoMetaAt w.started _ h
    (All-cons NoMetaAt (TableVersion, length w.bytes) [] (λ e. absurd cc) (All-nil NoMetaAt))

-- the data section alone
no_meta_first : (w : Written) (bytes : List ℕ) → w ≡ laid ((Data, bytes) ∷ []) → HasNoMeta w
no_meta_first w bytes e = rw e (All-cons NoMetaAt (Data, 0) [] (λ e. absurd cc) (All-nil NoMetaAt))

-- once the index, the filter and the version were written
pub no_meta_yet : (first indexed filtered versioned : Written) (bytes : List ℕ) (k : IndexKind)
    (at : ℕ) (hs : List Handle) (parts : List (List Handle)) (kind : FilterKind)
    (policy : BloomConstructionPolicy) (keys : List (List ℕ)) (n : ℕ)
    → first ≡ laid ((Data, bytes) ∷ []) → indexed ≡ appended first (index_sections k V4 at hs parts)
    → WritesFilter kind policy keys indexed filtered n
    → versioned ≡ appended filtered (version_section V4) → HasNoMeta versioned
no_meta_yet first indexed filtered versioned bytes k at hs parts kind policy keys n f i w v =
    let behind_index : HasNoMeta indexed = subst (λ (x : Written). HasNoMeta x) (sym i)
    (no_meta_behind_index first k at hs parts (no_meta_first first bytes f)) in
    let behind_filter : HasNoMeta filtered = subst (λ (x : Written). HasNoMeta x) (sym w.written)
    (no_meta_behind_filter indexed kind (length indexed.bytes)
    (filter_parts kind policy keys) w.filters behind_index) in
    subst (λ (x : Written). HasNoMeta x) (sym v) (no_meta_behind_version filtered behind_filter)

-- no version yet once the index and the filter were written
abbrev NoVersionAt : SectionName × ℕ → Type 0
NoVersionAt s = slot_index s.0 ≡ 5 → ⊥

pub no_version_yet : (first indexed filtered : Written) (bytes : List ℕ) (k : IndexKind) (at : ℕ)
    (hs : List Handle) (parts : List (List Handle)) (kind : FilterKind)
    (policy : BloomConstructionPolicy) (keys : List (List ℕ)) (n : ℕ)
    → first ≡ laid ((Data, bytes) ∷ []) → indexed ≡ appended first (index_sections k V4 at hs parts)
    → WritesFilter kind policy keys indexed filtered n → HasNoVersion filtered
no_version_yet first indexed filtered bytes k at hs parts kind policy keys n f i w =
    let start : HasNoVersion first = rw f (All-cons NoVersionAt (Data, 0) [] (λ e. absurd cc)
    (All-nil NoVersionAt)) in
    let behind_index : HasNoVersion indexed = subst (λ (x : Written). HasNoVersion x) (sym i)
    (All-append NoVersionAt first.started _ start
    (index_starts NoVersionAt k at _ hs parts (λ n e. absurd cc) (λ n e. absurd cc))) in
    subst (λ (x : Written). HasNoVersion x) (sym w.written)
    (All-append NoVersionAt indexed.started _ behind_index
    (filter_starts NoVersionAt kind (length indexed.bytes) _
    (filter_parts kind policy keys) w.filters (λ n e. absurd cc) (λ n e. absurd cc)))

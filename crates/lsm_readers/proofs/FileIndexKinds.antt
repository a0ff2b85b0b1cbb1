-- The index of a table of a list, by the kind that it was written with: where its sections lie,
-- that its blocks load, and what of it stays loaded.
use Rattle.std.proofs.Common.{◌≡◌, ℕ, ◌+◌, ◌^◌, ◌<◌, Bool, true, false, List, [], ◌∷◌, ◌++◌, length}
use Rattle.std.proofs.Common.{refl, sym, ap, subst, ◌∙◌, append_assoc, length-append, arith, ◌≤◌}
use Rattle.std.specs.Prelude.{Ok, Option, Some, None}
use Rattle.std.specs.List.{AllByRecursion, AllZip, flat_map}
use Rattle.std.proofs.lemmas.List.{append-nil}
use Rattle.sst_blocks.specs.declared.version.TableVersion.{TableVersion}
use Rattle.sst_blocks.specs.declared.block_type.BlockType.TheVariants.{Index}
use Rattle.sst_blocks.specs.Handle.{Handle}
use Rattle.sst_blocks.specs.Handles.{AreStrictHandles, IsSpellableHandle, handles_payload}
use Rattle.sst_blocks.proofs.BlockLengths.{length-block}
use Rattle.sst_blocks.specs.declared.table.options.IndexKind.{IndexKind}
use Rattle.sst_blocks.specs.declared.table.options.IndexKind.TheVariants.{Full as FullIndex}
use Rattle.sst_blocks.specs.declared.table.options.IndexKind.TheVariants.{
  Partitioned as PartitionedIndex,
}
use Rattle.sst_blocks.specs.table.Fits.{SectionFits}
use Rattle.sst_blocks.specs.table.Kinds.{AreIndexParts, full_index, index_sections}
use Rattle.sst_blocks.specs.table.Layout.{bytes_in}
use Rattle.sst_blocks.specs.table.Partitions.{handles_block, index_tops, is_full_index}
use Rattle.sst_blocks.specs.table.Partitions.{partitioned_index}
use Rattle.sst_blocks.specs.table.Parts.{ArePartsOf, joined_parts}
use Rattle.lsm_readers.proofs.FileIndexes.{LoadsHandles, handles_at, handles_load, parts_named}
use Rattle.lsm_readers.proofs.FileIndexes.{tops_load}
use Rattle.lsm_readers.proofs.PartEnds.{no_parts, some_parts}
use Rattle.lsm_readers.proofs.PartReads.{AreSomeParts}
use Rattle.sst_blocks.specs.declared.section.SectionName.TheVariants.{Filter as FilterSection}
use Rattle.sst_blocks.specs.declared.section.SectionName.TheVariants.{FilterTli}
use Rattle.sst_blocks.specs.declared.section.SectionName.TheVariants.{Index as IndexSection, Tli}
use Rattle.sst_blocks.specs.declared.section.SectionName.TheVariants.{Meta as MetaSection}
use Rattle.sst_blocks.specs.Place.{Place}
use Rattle.lsm_readers.specs.declared.regions.ParsedRegions.{ParsedRegions}
use Rattle.lsm_readers.specs.point.IndexKinds.{index_said, index_result, handles_result}
use Rattle.lsm_readers.specs.Stored.{HasPartitions, IndexHas, NamesPart}
use Rattle.lsm_readers.specs.OfList.{place_from}

-- ---- its sections

abbrev pub top_place : IndexKind → TableVersion → ℕ → List Handle → List (List Handle) → Place
top_place FullIndex v at hs parts = record { offset = at; size = length (handles_block v hs) }
top_place (PartitionedIndex size) v at hs parts =
    record {
      offset = at + length (flat_map (handles_block v) parts);
      size =
          length (handles_block v (index_tops v at parts));
    }

pub top_lies : (k : IndexKind) (v : TableVersion) (at : ℕ) (hs : List Handle)
    (parts : List (List Handle)) → place_from at (index_sections k v at hs parts) Tli
    ≡ Some (top_place k v at hs parts)
top_lies FullIndex v at hs parts = refl
top_lies (PartitionedIndex size) v at hs parts = refl

-- sections of an index are none of a filter, and none of the others
pub index_none : (k : IndexKind) (v : TableVersion) (at : ℕ) (hs : List Handle)
    (parts : List (List Handle)) (n : ℕ) →
    (place_from n (index_sections k v at hs parts) FilterSection ≡ None)
    × (place_from n (index_sections k v at hs parts) FilterTli ≡ None)
    × (place_from n (index_sections k v at hs parts) MetaSection ≡ None)
index_none FullIndex v at hs parts n = (refl, refl, refl)
index_none (PartitionedIndex size) v at hs parts n = (refl, refl, refl)

-- an index of no handles is one block
pub index_alone : (k : IndexKind) (v : TableVersion) (at : ℕ) (parts : List (List Handle))
    → AreIndexParts k [] parts → bytes_in (index_sections k v at [] parts) ≡ handles_block v []
    ++ []
index_alone FullIndex v at parts are = refl
index_alone (PartitionedIndex size) v at parts are =
    ap (λ (ps : List (List Handle)). bytes_in (index_sections (PartitionedIndex size) v at [] ps))
    (no_parts parts (some_parts (is_full_index size) parts are.each) are.whole)

-- ---- how many blocks it has

few_parts : {A : Type 0} (ps : List (List A)) → AreSomeParts ps
    → length ps ≤ length (joined_parts ps)
few_parts [] some = omega arith
few_parts (p ∷ ps) some = omega (
  arith,
  some.0,
  few_parts ps some.1,
  length-append p
      (joined_parts ps),
)

pub index_count : (k : IndexKind) (hs : List Handle) (parts : List (List Handle))
    → AreIndexParts k hs parts → length parts ≤ 1 + length hs
index_count FullIndex hs parts are = omega (arith, ap length are)
index_count (PartitionedIndex size) hs parts are =
    omega (
      arith,
      few_parts parts (some_parts (is_full_index size) parts are.each),
      ap length
          are.whole,
    )

-- ---- its blocks

module _ (v : TableVersion) (at : ℕ) (hs : List Handle) (parts : List (List Handle))
    (strict : AreStrictHandles hs) (spelled : AllByRecursion (IsSpellableHandle v) hs)
    (pre post body : List ℕ) (from : at ≡ length pre) where
  full_loads : AllByRecursion SectionFits (full_index v hs)
      → body ≡ pre ++ (bytes_in (full_index v hs) ++ post)
      → LoadsHandles body at (length (handles_block v hs)) hs
  full_loads fits lies =
      let whole : body ≡ pre ++ handles_block v hs ++ post = lies
      ∙ simp (append_assoc, append-nil) in
      handles_load v hs pre post body at (length (handles_block v hs)) spelled strict
      (fits.0).short from (length-block v Index (handles_payload v hs)) whole

  module _ (size : ℕ) (are : ArePartsOf (is_full_index size) hs parts)
      (fits : AllByRecursion SectionFits (partitioned_index v at parts))
      (lies : body ≡ pre ++ (bytes_in (partitioned_index v at parts) ++ post)) where
    some : AreSomeParts parts
    some = some_parts (is_full_index size) parts are.each

    line : AreStrictHandles (joined_parts parts)
    line = subst AreStrictHandles (sym are.whole) strict

    all : AllByRecursion (IsSpellableHandle v) (joined_parts parts)
    all = subst (λ (xs : List Handle). AllByRecursion (IsSpellableHandle v) xs)
        (sym are.whole) spelled

    abbrev blocks : List ℕ
    blocks = flat_map (handles_block v) parts

    abbrev top : List ℕ
    top = handles_block v (index_tops v at parts)

    behind : body ≡ pre ++ (blocks ++ ((top ++ []) ++ post))
    behind = lies ∙ simp append_assoc

    top_level_loads : at + length (bytes_in (partitioned_index v at parts)) < 2 ^ 64
        → LoadsHandles body (at + length blocks) (length top) (index_tops v at parts)
    top_level_loads within =
        let whole : body ≡ (pre ++ blocks) ++ top ++ post = lies
        ∙ simp (append_assoc, append-nil) in
        tops_load v at parts some line all (fits.0).short (pre ++ blocks) post body
        (at + length blocks) (length top) (omega
        (arith, within, length-append blocks (top ++ []))) ((fits.1.0).short)
        (omega (arith, from, length-append pre blocks))
        (length-block v Index (handles_payload v (index_tops v at parts))) whole

    partitions_named : AllZip (NamesPart body) (index_tops v at parts) parts
    partitions_named =
        let start : at + 0 ≡ at = omega arith in
        subst (λ (m : ℕ). AllZip (NamesPart body) (index_tops v m parts) parts) start
        (parts_named v at parts some line all (fits.0).short pre ((top ++ []) ++ post) body from
        behind [] parts refl some)

  -- what of it stays loaded
  pub index_here : (k : IndexKind) (regions : ParsedRegions) (pin : Bool) → AreIndexParts k hs parts
      → AllByRecursion SectionFits (index_sections k v at hs parts)
      → at + length (bytes_in (index_sections k v at hs parts)) < 2 ^ 64
      → body ≡ pre ++ (bytes_in (index_sections k v at hs parts) ++ post)
      → regions.index ≡ place_from at (index_sections k v at hs parts) IndexSection
      → regions.tli ≡ top_place k v at hs parts
      → index_result body regions pin ≡ Ok (index_said k v at hs parts pin)
  index_here FullIndex regions true are fits within lies absent place =
      let returned = handles_at body (top_place FullIndex v at hs parts) hs (full_loads fits lies) in
      rw (absent, place, returned) refl
  index_here FullIndex regions false are fits within lies absent place = rw absent refl
  index_here (PartitionedIndex size) regions pin are fits within lies there place =
      let returned = handles_at body (top_place (PartitionedIndex size) v at hs parts)
      (index_tops v at parts) (top_level_loads size are fits lies within) in
      rw (there, place, returned) refl

  -- it has the handles, in one block or in partitions
  pub index_has : (k : IndexKind) (regions : ParsedRegions) → AreIndexParts k hs parts
      → AllByRecursion SectionFits (index_sections k v at hs parts)
      → at + length (bytes_in (index_sections k v at hs parts)) < 2 ^ 64
      → body ≡ pre ++ (bytes_in (index_sections k v at hs parts) ++ post)
      → regions.index ≡ place_from at (index_sections k v at hs parts) IndexSection
      → regions.tli ≡ top_place k v at hs parts → IndexHas body regions.index regions.tli hs
  index_has FullIndex regions are fits within lies absent place =
      let returned = handles_at body (top_place FullIndex v at hs parts) hs (full_loads fits lies) in
      subst (λ (o : Option Place). IndexHas body o regions.tli hs) (sym absent)
      (subst (λ (p : Place). handles_result body p ≡ Ok hs) (sym place) returned)
  index_has (PartitionedIndex size) regions are fits within lies there place =
      let lie : Place = top_place (PartitionedIndex size) v at hs parts in
      let here : HasPartitions body lie hs = record {
        tops = index_tops v at parts;
        parts = parts;
        returned = handles_at body lie (index_tops v at parts)
            (top_level_loads size are fits lies within);
        named = partitions_named size are fits lies;
        whole = are.whole;
      } in
      subst (λ (o : Option Place). IndexHas body o regions.tli hs) (sym there)
      (subst (λ (p : Place). HasPartitions body p hs) (sym place) here)

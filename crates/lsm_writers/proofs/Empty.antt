-- An index without handles.
use Rattle.std.proofs.Common.{◌≡◌, refl, ◌∙◌, ap, sym, subst, ℕ, ◌==◌, Bool, true, false, List, []}
use Rattle.std.proofs.Common.{◌∷◌, ◌++◌, length, take, arith}
use Rattle.std.specs.Prelude.{None, Result, Ok, Err, OnErr, vec_len, IsTrue, ◌↔◌}
use Rattle.std.specs.declared.vec.Vec.{Vec}
use Rattle.std.proofs.Math.Seq.{take-append_seam}
use Rattle.std.proofs.lemmas.Bool.Decides.{nat_tests}
use Rattle.std.proofs.lemmas.List.{append-nil}
use Rattle.std.specs.List.{AllByRecursion}
use Rattle.sst_entries.specs.declared.error.Error.{Error}
use Rattle.sst_blocks.specs.Number.{le4}
use Rattle.sst_blocks.specs.Sections.{Written}
use Rattle.sst_blocks.specs.declared.section.SectionName.{SectionName}
use Rattle.sst_blocks.specs.declared.section.SectionName.TheVariants.{Index, Tli}
use Rattle.sst_blocks.specs.declared.version.TableVersion.TheVariants.{V4}
use Rattle.sst_blocks.specs.declared.block_type.BlockType.TheVariants.{Index as IndexBlock}
use Rattle.sst_blocks.specs.Block.{block_bytes}
use Rattle.sst_blocks.specs.Handle.{Handle}
use Rattle.sst_blocks.specs.Handles.{handles_payload}
use Rattle.sst_blocks.specs.table.Fits.{SectionFits}
use Rattle.sst_blocks.specs.table.Kinds.{index_parts, index_sections}
use Rattle.sst_blocks.specs.table.Layout.{Sections, appended, bytes_in}
use Rattle.sst_blocks.specs.table.Parts.{parts_after}
use Rattle.sst_blocks.specs.table.Partitions.{handles_block, partitioned_index}
use Rattle.sst_blocks.specs.declared.table.options.IndexKind.{IndexKind}
use Rattle.sst_blocks.specs.declared.table.options.IndexKind.TheVariants.{Full, Partitioned}
use Rattle.sst_blocks.proofs.BlockLengths.{length-block}
use Rattle.lsm_writers.specs.section.IndexRefusing.{index_fault, kind_fault, parts_fault}
use Rattle.lsm_writers.specs.section.Registered.{Registered}
use Rattle.lsm_writers.proofs.Behind.{bytes_stay, section_behind, section_more}
use Rattle.lsm_writers.proofs.SectionFinishing.{works_fault}

-- what a test of emptiness tells
pub is_zero : (n : ℕ) (r : Bool) → r ≡ (n == 0) → r ≡ true → n ≡ 0
is_zero n r e t = let z : (n == 0) ≡ true = sym e ∙ t in grind (arith, nat_tests, z)

pub is_not_zero : (n : ℕ) (r : Bool) → r ≡ (n == 0) → r ≡ false → n ≡ 0 → ⊥
is_not_zero n r e f z = let no : (n == 0) ≡ false = sym e ∙ f in grind (arith, nat_tests, no, z)

-- a test of emptiness that fails
pub is_some_then : {X : Type 0} (r : Bool) (xs ys : List X) → xs ≡ ys
    → (IsTrue r ↔ (xs ≡ [])) → r ≡ false → ys ≡ [] → ⊥
is_some_then r xs ys same test f none = let t = test.1 (same ∙ none) in cc

pub vec_is_some : {X Z : Type 0} (v : Vec X Z) (xs : List X) (r : Bool) → v.items ≡ xs
    → r ≡ (vec_len v == 0) → r ≡ false → xs ≡ [] → ⊥
vec_is_some v xs r is e f none =
    let len : length v.items ≡ 0 = ap length (is ∙ none) in
    is_not_zero (vec_len v) r e f (omega (arith, v.ok.0, len))

-- what a block of no handles has is their count
no_payload : handles_payload V4 [] ≡ 0 ∷ 0 ∷ 0 ∷ 0 ∷ []
unfolding handles_payload le4
no_payload = refl

pub empty_top : (w u x : Written) → u ≡ record w
    { started = w.started ++ (Tli, length w.bytes) ∷ [] }
    → x ≡ record u { bytes = u.bytes ++ block_bytes V4 IndexBlock (0 ∷ 0 ∷ 0 ∷ 0 ∷ []) } →
    x ≡ appended w ((Tli, handles_block V4 []) ∷ [])
empty_top w u x begun written =
    section_more w u x Tli (handles_block V4 []) begun
    (written ∙ ap (λ (p : List ℕ). record u { bytes = u.bytes ++ block_bytes V4 IndexBlock p })
    (sym no_payload))

-- and no partitions before it
pub empty_sections : (w u x : Written) → u ≡ record w
    { started = w.started ++ (Index, length w.bytes) ∷ [] }
    → x ≡ appended u ((Tli, handles_block V4 []) ∷ []) →
    x ≡ appended w (partitioned_index V4 (length w.bytes) [])
empty_sections w u x begun top =
    let same : u ≡ record u { bytes = u.bytes ++ [] } = rw (append-nil u.bytes) refl in
    let first : u ≡ appended w ((Index, []) ∷ []) = section_more w u u Index [] begun same in
    top ∙ section_behind w u (Index, []) (Tli, handles_block V4 []) first

-- no byte was written
pub no_bytes : (w u x : Written) (started : List (SectionName × ℕ))
    → u ≡ record w { started = started } → x ≡ u → x.bytes ≡ w.bytes
no_bytes w u x started begun same = ap (λ (y : Written). y.bytes) (same ∙ begun)

pub still_no_bytes : {X : Type 0} (r : Result X Error) (w u x : Written)
    (started : List (SectionName × ℕ)) → u ≡ record w { started = started }
    → OnErr r (x.bytes ≡ u.bytes) → OnErr r (x.bytes ≡ w.bytes)
still_no_bytes (Ok y) w u x started begun same = tt
still_no_bytes (Err e) w u x started begun same = same ∙ ap (λ (y : Written). y.bytes) begun

-- the parts of no handles
abbrev empty_parts : IndexKind → List (List Handle)
empty_parts Full = [] ∷ []
empty_parts (Partitioned size) = []

parts_none : (kind : IndexKind) → index_parts kind [] ≡ empty_parts kind
unfolding parts_after
parts_none Full = refl
parts_none (Partitioned size) = refl

no_kind_fault : (kind : IndexKind) → kind_fault kind [] ≡ None
unfolding parts_after parts_fault
no_kind_fault Full = refl
no_kind_fault (Partitioned size) = refl

fits_none : (kind : IndexKind) (at : ℕ) → AllByRecursion SectionFits
    (index_sections kind V4 at [] (empty_parts kind))
fits_none Full at = (
  record {
    short = omega (
      arith,
      length-block V4 IndexBlock
          (handles_payload V4 []),
      ap length no_payload,
    );
  },
  tt,
)
fits_none (Partitioned size) at = (
  record { short = omega arith },
  (
    record {
      short = omega (
        arith,
        length-block V4 IndexBlock
            (handles_payload V4 []),
        ap length no_payload,
      );
    },
    tt,
  ),
)

-- what was written is the index of a writer that has no handles
module _ (w : Registered) (kind : IndexKind) (hs : List Handle) (failed : Bool)
    (before after : Written)
    (view : record { handles = hs; kind = kind; failed = failed } ≡ w) (none : hs ≡ []) where
  sections_are : index_sections kind V4 (length before.bytes) [] (empty_parts kind)
      ≡ index_sections w.kind V4 (length before.bytes) w.handles (index_parts w.kind w.handles)
  sections_are =
      let own : index_sections kind V4 (length before.bytes) [] (empty_parts kind)
      ≡ index_sections kind V4 (length before.bytes) hs (index_parts kind hs) =
      ap (λ (ps : List (List Handle)). index_sections kind V4 (length before.bytes) [] ps)
      (sym (parts_none kind))
      ∙ ap (λ (xs : List Handle). index_sections kind V4 (length before.bytes) xs
      (index_parts kind xs)) (sym none) in
      subst (λ (x : Registered). index_sections kind V4 (length before.bytes) [] (empty_parts kind)
      ≡ index_sections x.kind V4 (length before.bytes) x.handles (index_parts x.kind x.handles))
      view own

  pub empty_written : after ≡ appended before (index_sections kind V4 (length before.bytes) []
      (empty_parts kind)) →
      after ≡ appended before (index_sections w.kind V4 (length before.bytes) w.handles
      (index_parts w.kind w.handles))
  empty_written is = is ∙ ap (λ (ss : Sections). appended before ss) sections_are

  pub empty_count : length (empty_parts kind) ≡ length (index_parts w.kind w.handles)
  empty_count =
      subst (λ (x : Registered). length (empty_parts kind) ≡ length (index_parts x.kind x.handles))
      view
      (ap length (sym (parts_none kind)) ∙ ap (λ (xs : List Handle). length (index_parts kind xs))
      (sym none))

  pub empty_fits : AllByRecursion SectionFits (index_sections w.kind V4
      (length before.bytes) w.handles (index_parts w.kind w.handles))
  empty_fits = subst (λ (ss : Sections). AllByRecursion SectionFits ss) sections_are
      (fits_none kind (length before.bytes))

  pub empty_fault : failed ≡ false → index_fault w.kind w.failed w.handles ≡ None
  empty_fault works =
      let returned : kind_fault kind hs ≡ None = ap (λ (xs : List Handle). kind_fault kind xs) none
      ∙ no_kind_fault kind in
      works_fault {X = ℕ} (Ok 0) w kind hs failed view works returned

-- what was written before stays at the front
pub empty_front : (w x : Written) (ss : Sections) → x ≡ appended w ss
    → take (length w.bytes) x.bytes ≡ w.bytes
empty_front w x ss e = ap (λ (y : Written). take (length w.bytes) y.bytes) e
    ∙ take-append_seam w.bytes (bytes_in ss)

pub same_front : (w x : Written) → x.bytes ≡ w.bytes → take (length w.bytes) x.bytes ≡ w.bytes
same_front w x e = ap (λ (bs : List ℕ). take (length w.bytes) bs) e ∙ bytes_stay w

-- Finishing an index.
use Rattle.std.proofs.Common.{◌≡◌, ◌∙◌, ap, sym, subst, ℕ, ◌+◌, ◌-◌, ◌^◌, ◌<◌, ◌≤◌, nat_le, Bool}
use Rattle.std.proofs.Common.{true, false, List, [], ◌∷◌, ◌++◌, length, length-append, arith}
use Rattle.std.specs.Prelude.{Option, Some, None, Result, IsErrAnd, if◌then◌else◌}
use Rattle.std.proofs.lemmas.Bool.Decides.{nat_tests}
use Rattle.std.specs.List.{AllByRecursion, flat_map}
use Rattle.std.specs.Option.{option_or}
use Rattle.sst_entries.specs.Error.{Faults, FaultsFirst, is_memory}
use Rattle.sst_entries.specs.declared.error.Error.{Error}
use Rattle.sst_entries.specs.declared.error.Error.TheVariants.{SectionTooLarge}
use Rattle.sst_entries.proofs.Refusals.{faults_refusal}
use Rattle.sst_blocks.specs.Sections.{Written}
use Rattle.sst_blocks.specs.declared.section.SectionName.TheVariants.{Index, Tli}
use Rattle.sst_blocks.specs.declared.version.TableVersion.TheVariants.{V4}
use Rattle.sst_blocks.specs.Bounds.{index_block_bound_of}
use Rattle.sst_blocks.specs.Encoding.{handles_fault}
use Rattle.sst_blocks.specs.Handle.{Handle}
use Rattle.sst_blocks.specs.Handles.{AreStrictHandles}
use Rattle.sst_blocks.specs.table.Failed.{failed_fault, section_fault}
use Rattle.sst_blocks.specs.table.Fits.{SectionFits}
use Rattle.sst_blocks.specs.table.Layout.{appended}
use Rattle.sst_blocks.specs.table.Parts.{parts_by}
use Rattle.sst_blocks.specs.table.Partitions.{handles_block, index_tops, is_full_index}
use Rattle.sst_blocks.specs.table.Partitions.{partitioned_index}
use Rattle.sst_blocks.specs.declared.table.options.IndexKind.{IndexKind}
use Rattle.sst_blocks.specs.declared.table.options.IndexKind.TheVariants.{Partitioned}
use Rattle.lsm_writers.specs.section.IndexRefusing.{index_fault, kind_fault, part_fault}
use Rattle.lsm_writers.specs.section.IndexRefusing.{parts_fault}
use Rattle.lsm_writers.specs.section.Registered.{Registered}
use Rattle.lsm_writers.proofs.Behind.{section_behind, section_more}
use Rattle.lsm_writers.proofs.Tops.{length_tops, tops_fault, tops_strict}

-- handles, also as they are at hand as `now`, in partitions of `limit` bytes
module _ (hs now : List Handle) (limit : ℕ) (is : now ≡ hs) where
  abbrev parts : List (List Handle)
  parts = parts_by (is_full_index limit) hs

  abbrev parts_now : List (List Handle)
  parts_now = parts_by (is_full_index limit) now

  same_parts : parts_now ≡ parts
  same_parts = ap (λ (xs : List Handle). parts_by (is_full_index limit) xs) is

  -- what a part refuses, the index refuses
  pub parts_refused : {X : Type 0} (r : Result X Error) (e : Error) → IsErrAnd r (λ y. y ≡ e)
      → (is_memory e ≡ false → parts_fault 0 parts_now ≡ Some e) →
      Faults r (kind_fault (Partitioned limit) hs)
  parts_refused r e refused fault = faults_refusal r e _ refused
      (λ m. ap (λ (f : Option Error). option_or f (handles_fault (index_tops V4 0 parts)))
      (ap (λ ps. parts_fault 0 ps) (sym same_parts) ∙ fault m))

  -- their section was begun and written, and the top level has `tops`
  module _ (w u v : Written) (tops given : List Handle)
      (begun : u ≡ record w { started = w.started ++ (Index, length w.bytes) ∷ [] })
      (returned : tops ≡ index_tops V4 (length u.bytes) parts_now) (same : given ≡ tops) where
    reported_now : given ≡ index_tops V4 (length w.bytes) parts
    reported_now = same ∙ returned ∙ ap (λ ps. index_tops V4 (length u.bytes) ps) same_parts
        ∙ ap (λ (y : Written). index_tops V4 (length y.bytes) parts) begun

    pub top_strict : AreStrictHandles hs → AreStrictHandles given
    top_strict h = tops_strict (is_full_index limit) (length w.bytes) hs given h reported_now

    pub top_count : length tops ≡ length parts
    top_count = ap length (sym same) ∙ ap length reported_now ∙ length_tops (length w.bytes) parts

    -- where no part is refused, what is refused is the top level's block
    pub top_fault : parts_fault 0 parts_now ≡ None
        → kind_fault (Partitioned limit) hs ≡ handles_fault given
    top_fault fit =
        ap (λ (f : Option Error). option_or f (handles_fault (index_tops V4 0 parts)))
        (ap (λ ps. parts_fault 0 ps) (sym same_parts) ∙ fit)
        ∙ tops_fault 0 (length w.bytes) parts ∙ ap (λ (ts : List Handle). handles_fault ts)
        (sym reported_now)

    pub all_behind : (x : Written) → v ≡ record u
        { bytes = u.bytes ++ flat_map (handles_block V4) parts_now }
        → x ≡ appended v ((Tli, handles_block V4 given) ∷ []) →
        x ≡ appended w (partitioned_index V4 (length w.bytes) parts)
    all_behind x written top =
        let blocks : List ℕ = flat_map (handles_block V4) parts in
        let longer : v ≡ record u { bytes = u.bytes ++ blocks } = written
        ∙ ap (λ (ps : List (List Handle)). record u
        { bytes = u.bytes ++ flat_map (handles_block V4) ps }) same_parts in
        let first : v ≡ appended w ((Index, blocks) ∷ []) =
        section_more w u v Index blocks begun longer in
        top ∙ ap (λ (ts : List Handle). appended v ((Tli, handles_block V4 ts) ∷ [])) reported_now
        ∙ section_behind w v (Index, blocks) (
          Tli,
          handles_block V4
              (index_tops V4 (length w.bytes) parts),
        ) first

    pub all_fit : length (flat_map (handles_block V4) parts_now) < 2 ^ 32
        → SectionFits (Tli, handles_block V4 given)
        → AllByRecursion SectionFits (partitioned_index V4 (length w.bytes) parts)
    all_fit short fits = (
      record {
        short = subst (λ (ps : List (List Handle)). length (flat_map (handles_block V4) ps)
            < 2 ^ 32) same_parts short;
      },
      (subst (λ (ts : List Handle). SectionFits (Tli, handles_block V4 ts)) reported_now fits, tt),
    )

-- what a writer refuses that has not failed
pub works_fault : {X : Type 0} (r : Result X Error) (w : Registered) (kind : IndexKind)
    (hs : List Handle) (failed : Bool) → record { handles = hs; kind = kind; failed = failed } ≡ w
    → failed ≡ false →
    Faults r (kind_fault kind hs) → Faults r (index_fault w.kind w.failed w.handles)
works_fault r w kind hs failed view works fault =
    subst (λ (x : Registered). Faults r (index_fault x.kind x.failed x.handles)) view
    (subst (λ (b : Bool). Faults r (index_fault kind b hs)) (sym works) fault)

pub works_first : {X : Type 0} (r : Result X Error) (inside failed : Bool) → inside ≡ failed
    → inside ≡ false → FaultsFirst r (failed_fault failed)
works_first r inside failed same works = λ e returned. absurd
    (none_result failed e (sym same ∙ works) returned)
  where
    none_result : (failed : Bool) (e : Error) → failed ≡ false → failed_fault failed ≡ Some e → ⊥
    none_result true e works returned = cc
    none_result false e works returned = cc

-- what a part refuses behind others: its block, then the section so far
pub part_refused : {X : Type 0} (r : Result X Error) (e : Error) (before : ℕ) (part : List Handle)
    → IsErrAnd r (λ y. y ≡ e) → (is_memory e ≡ false → handles_fault part ≡ Some e) →
    Faults r (part_fault before part)
part_refused r e before part refused fault = faults_refusal r e _ refused
    (λ m. ap (λ (f : Option Error). option_or f (section_fault
    (before + index_block_bound_of part))) (fault m))

module _ (w x : Written) (base : ℕ) (part : List Handle) (block : List ℕ)
    (written : x ≡ record w { bytes = w.bytes ++ block })
    (bound : length block ≡ index_block_bound_of part)
    (behind : base ≤ length w.bytes) (fits : handles_fault part ≡ None) where
  so_far : length w.bytes - base + index_block_bound_of part ≡ length x.bytes - base
  so_far = omega (
    arith,
    ap (λ (y : Written). length y.bytes) written,
    length-append w.bytes block,
    bound,
    behind,
  )

  returned : (large : Bool) → nat_le (2 ^ 32) (length x.bytes - base) ≡ large
      → part_fault (length w.bytes - base) part ≡ (if large then Some SectionTooLarge else None)
  returned large is =
      ap (λ (f : Option Error). option_or f (section_fault
      (length w.bytes - base + index_block_bound_of part))) fits
      ∙ ap (λ (n : ℕ). section_fault n) so_far ∙ ap
      (λ (b : Bool). if b then Some SectionTooLarge else None) is

  pub part_large : 2 ^ 32 ≤ length x.bytes - base
      → part_fault (length w.bytes - base) part ≡ Some SectionTooLarge
  part_large le = returned true (grind (arith, nat_tests, le))

  pub part_fits : length x.bytes - base < 2 ^ 32 → part_fault (length w.bytes - base) part ≡ None
  part_fits lt = returned false (grind (arith, nat_tests, lt))

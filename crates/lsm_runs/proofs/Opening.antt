-- A list that is written, opened and read.
use Rattle.std.proofs.Common.{◌≡◌, refl, sym, subst, ◌∙◌, ℕ, ◌+◌, ◌-◌, ◌^◌, ◌<◌, Bool, true, false}
use Rattle.std.proofs.Common.{cond, ltb, le-ltb, List, [], length, arith}
use Rattle.std.specs.Prelude.{Option, Some, None, Ok, Err}
use Rattle.std.specs.Option.{option_or}
use Rattle.sst_entries.specs.declared.error.Error.{Error}
use Rattle.sst_entries.specs.declared.error.Error.TheVariants.{GlobalSeqNoTooLarge, OutOfMemory}
use Rattle.sst_entries.specs.Entry.{Entry}
use Rattle.sst_entries.specs.Error.{is_memory}
use Rattle.sst_blocks.specs.Fnv.{fnv1a}
use Rattle.sst_blocks.specs.declared.version.TableVersion.TheVariants.{V4}
use Rattle.sst_entries.specs.Point.{point}
use Rattle.sst_entries.specs.Stream.{YieldsExactly, ok_results, nowhere, answer_stops}
use Rattle.sst_blocks.specs.table.Facts.{highest_seqno}
use Rattle.sst_blocks.specs.declared.table.label.Label.{Label}
use Rattle.sst_blocks.specs.table.Options.{default_options}
use Rattle.sst_blocks.specs.table.Table.{IsTable}
use Rattle.lsm_writers.specs.Writing.{IsTableOf, list_fault}
use Rattle.lsm_writers.proofs.CutTables.{some_length}
use Rattle.lsm_readers.specs.OfList.{list_result, parts_said}
use Rattle.lsm_runs.specs.compaction.Written.{IsOpened, ReadsList, number_fault, opening_fault}
use Rattle.lsm_readers.specs.point.Answer.{lift}
use Rattle.lsm_readers.specs.point.Parts.{Parts}
use Rattle.lsm_readers.specs.Scan.{Scan, ScansNext}
use Rattle.lsm_readers.specs.point.Table.{OpenTable}
use Rattle.lsm_runs.proofs.RunReads.{found_is}

fine_by : (large : Bool) (p q : Parts) → cond large (Err GlobalSeqNoTooLarge) (Ok p) ≡ Ok q
    → cond large (Some GlobalSeqNoTooLarge) None ≡ None
fine_by true p q returned = absurd cc
fine_by false p q returned = refl

fault_by : (large : Bool) (p : Parts) (e : Error)
    → cond large (Err GlobalSeqNoTooLarge) (Ok p) ≡ Err e
    → cond large (Some GlobalSeqNoTooLarge) None ≡ Some e
fault_by true p e returned = cc
fault_by false p e returned = absurd cc

pub or_fine : (a b : Option Error) → a ≡ None → b ≡ None → option_or a b ≡ None
or_fine None b p q = q
or_fine (Some e) b p q = p

pub or_second : (a b : Option Error) (e : Error) → a ≡ None → b ≡ Some e → option_or a b ≡ Some e
or_second None b e p q = q
or_second (Some d) b e p q = absurd cc

pub or_first : (a b : Option Error) (e : Error) → a ≡ Some e → option_or a b ≡ Some e
or_first None b e p = absurd cc
or_first (Some d) b e p = p

module _ (label : Label) (es : List Entry) (g : ℕ) where
  -- nothing was written
  pub none_written : list_fault label es ≡ None → es ≡ [] → g < 2 ^ 64
      → opening_fault label es g ≡ None
  unfolding highest_seqno
  none_written fine none small =
      let low : ltb (2 ^ 64 - 1) (highest_seqno [] + g) ≡ false =
      le-ltb _ _ (omega (arith, small)) in
      or_fine (list_fault label es) (number_fault es g) fine (rw (none, low) refl)

  module _ (bytes : List ℕ) (t : IsTable bytes es) (written : list_fault label es ≡ None) where
    pub opens : (parts : Parts) → list_result t g true true ≡ Ok parts
        → opening_fault label es g ≡ None
    opens parts returned = or_fine (list_fault label es) (number_fault es g) written
        (fine_by (ltb (2 ^ 64 - 1) (highest_seqno es + g)) (parts_said t true true) parts returned)

    pub unopened : (e : Error) → list_result t g true true ≡ Err e → opening_fault label es g ≡ Some e
    unopened e returned = or_second (list_fault label es) (number_fault es g) e written
        (fault_by (ltb (2 ^ 64 - 1) (highest_seqno es + g)) (parts_said t true true) e returned)

parts_by : (large : Bool) (p q : Parts) → cond large (Err GlobalSeqNoTooLarge) (Ok p) ≡ Ok q → q ≡ p
parts_by true p q returned = absurd cc
parts_by false p q returned = cc

-- what was opened
pub opened : (label : Label) (es : List Entry) (g id sum : ℕ) (bytes : List ℕ) (t : OpenTable)
    (f : IsTableOf label es id sum bytes) → t.bytes ≡ bytes → t.global_seqno ≡ g → t.tree_id ≡ 0
    → t.checksum ≡ sum → list_result f.table g true true ≡ Ok t.parts → IsOpened label es g t
opened label es g id sum bytes t f same number tree check returned =
    let P : List ℕ → Type 0 = λ b. (x : IsTable b es) × (x.label ≡ label)
    × (x.options ≡ default_options) × (x.version ≡ V4) × (x.spills ≡ [])
    × (t.parts ≡ parts_said x true true) in
    let parts = parts_by (ltb (2 ^ 64 - 1) (highest_seqno es + g))
    (parts_said f.table true true) t.parts returned in
    let table : P t.bytes = subst P (sym same) (
      f.table,
      f.label_is,
      f.options_are,
      f.version_is,
      f.spills_are,
      parts,
    ) in
    record {
      some = f.some;
      table = table.0;
      label_is = table.1;
      options_are = table.2;
      version_is = table.3;
      spills_are = table.4;
      parts_are = table.5;
      number_is = number;
      tree_is = tree;
      checksum_is = check ∙ f.checksum_is ∙ subst
          (λ (b : List ℕ). fnv1a b ≡ fnv1a t.bytes) same refl;
    }

-- ---- reading it

-- reading a list is refused for want of memory alone
pub read_alone : {X : Type 0} (found : X) (e : Error) → (is_memory e ≡ false → Ok found ≡ Err e)
    → (returned : Option Error) → is_memory e ≡ false → returned ≡ Some e
read_alone {X} found e fails returned memory = absurd (let no : Ok found ≡ Err e = fails memory in cc)

pub scan_alone : (es : List Entry) (e : Error) (returned : Option Error) → (es ≡ [] → ⊥)
    → (0 < length es → e ≡ OutOfMemory) → is_memory e ≡ false → returned ≡ Some e
scan_alone es e returned some alone memory =
    let is : true ≡ false = sym (subst (λ (x : Error). is_memory x ≡ true)
    (sym (alone (some_length es some))) refl) ∙ memory in
    absurd cc

pub value_of : (a b : Option Entry) → found_is a ≡ found_is b → b ≡ a
value_of a b h = cc

-- the answers, by the number that the table adds
pub reads : (es : List Entry) (g n : ℕ) (key : List ℕ) (bound : ℕ) (found : Option Entry) (s : Scan)
    → n ≡ g → found_is (point (lift es n) key bound) ≡ found_is found
    → ((stops : Error → Bool) → stops OutOfMemory ≡ true
    → YieldsExactly (answer_stops stops) ScansNext nowhere s (ok_results (lift es n)))
    → ReadsList es g key bound found s
reads es g n key bound found s number returned yields = record {
  point_is = subst (λ (k : ℕ). found ≡ point (lift es k) key bound) number
      (value_of (point (lift es n) key bound) found returned);
  scan_is = λ stops memory. subst (λ (k : ℕ). YieldsExactly (answer_stops stops) ScansNext nowhere s
      (ok_results (lift es k))) number (yields stops memory);
}

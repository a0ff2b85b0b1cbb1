use Rattle.std.proofs.Common.{◌≡◌, ℕ, ◌+◌, ◌<◌, ◌≤◌, List, ◌++◌, length, get_or, take, rules, sym, ap, ◌∙◌, append_assoc}
use Rattle.std.specs.List.{flat_map}
use Rattle.std.proofs.lemmas.List.{flat_map_more, take_all, take_more}
use Rattle.std.proofs.lemmas.Result.{IfOk-from_err}
use Rattle.sst_blocks.specs.declared.section.SectionName.{SectionName}
use Rattle.sst_blocks.specs.declared.section.SectionName.TheVariants.{Data}
use Rattle.sst_blocks.specs.Sections.{section_names, section_of, slot, trailer_mark}
use Rattle.sst_blocks.proofs.section.put_trailer.Goals as goal

-- one more slot
next_slot : (f : SectionName → List ℕ) (old now next : List ℕ) (names : List SectionName) (i : ℕ) (d : SectionName) (part : List ℕ) → i < length names
    → now ≡ old ++ flat_map f (take i names) → next ≡ now ++ part → part ≡ f (get_or names i d)
    → next ≡ old ++ flat_map f (take (i + 1) names)
next_slot f old now next names i d part lt written e is =
    e ∙ ap (λ (back : List ℕ). now ++ back) is ∙ ap (λ (front : List ℕ). front ++ f (get_or names i d)) written ∙ flat_map_more f old (take i names) (get_or names i d)
    ∙ ap (λ (xs : List SectionName). old ++ flat_map f xs) (sym (take_more names i d lt))

-- the mark behind all the slots
whole : (f : SectionName → List ℕ) (old now new mark : List ℕ) (names : List SectionName) (i : ℕ) → length names ≤ i → now ≡ old ++ flat_map f (take i names) → new ≡ now ++ mark → new ≡ old ++ (flat_map f names ++ mark)
whole f old now new mark names i le written e =
    e ∙ ap (λ (front : List ℕ). front ++ mark) (written ∙ ap (λ (xs : List SectionName). old ++ flat_map f xs) (take_all i names le)) ∙ append_assoc old (flat_map f names) mark

pub returns : goal.returns
returns g c =
    record {
      ok = whole (λ (name : SectionName). slot (section_of c.args.end c.args.started.now name)) c.args.bytes.now.items c.loop-name.bytes.items c.extend_from_slice.new.self.items trailer_mark section_names c.loop-name.name-index
          c.loop-name-test.false c.loop-name.invariant c.in_ok-extend_from_slice.ensures.items;
      err = tt;
    }

pub loop-name-preserved : goal.loop-name-preserved
loop-name-preserved g c =
    next_slot (λ (name : SectionName). slot (section_of c.args.end c.args.started.now name)) c.args.bytes.now.items c.loop-name.bytes.items c.put_slot.new.bytes.items section_names c.loop-name.name-index Data (slot c.section_of.result)
    c.loop-name-test.true c.loop-name.invariant c.in_ok-put_slot.ensures.ok (ap slot c.section_of.ensures)

pub returns-in_err-put_slot : goal.returns-in_err-put_slot
returns-in_err-put_slot g c = record { ok = IfOk-from_err _ _ c.from_residual.ensures.0; err = search rules }

pub returns-in_err-extend_from_slice : goal.returns-in_err-extend_from_slice
returns-in_err-extend_from_slice g c = record { ok = IfOk-from_err _ _ c.from_residual-in_err-extend_from_slice.ensures.0; err = search rules }

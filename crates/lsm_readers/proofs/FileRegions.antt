-- Where the sections of a table lie, and what its trailer tells of them.
use Rattle.std.proofs.Common.{◌≡◌, ℕ, ◌+◌, ◌-◌, ◌^◌, ◌==◌, Bool, true, false, cond, List, [], ◌∷◌}
use Rattle.std.proofs.Common.{◌++◌, length, refl, ap, ◌∙◌, length-append, arith, if◌then◌else◌}
use Rattle.std.specs.Prelude.{Option, Some, None, Result, Ok, Err}
use Rattle.std.specs.List.{AllByRecursion}
use Rattle.std.specs.Option.{option_or}
use Rattle.std.proofs.lemmas.Bool.{lt-leb}
use Rattle.std.proofs.lemmas.List.Concat.{flat_map-append}
use Rattle.sst_entries.specs.declared.error.Error.{Error}
use Rattle.sst_blocks.specs.declared.section.Section.{Section}
use Rattle.sst_blocks.specs.declared.section.SectionName.{SectionName}
use Rattle.sst_blocks.specs.Sections.{AreAscending, next_start, section_of, slot_index}
use Rattle.sst_blocks.specs.Place.{Place}
use Rattle.sst_blocks.specs.table.Fits.{SectionFits}
use Rattle.sst_blocks.specs.table.Layout.{Sections, bytes_in, starts_from}
use Rattle.lsm_readers.specs.OfList.{place_from}
use Rattle.lsm_readers.specs.point.Read.{◌>>=◌}
use Rattle.lsm_readers.specs.point.Regions.{needed_result, optional_result, region_result}

-- where a section of a name lies among some, the first of them at a position
abbrev pub section_from : ℕ → Sections → SectionName → Option Section
section_from at [] name = None
section_from at (s ∷ ss) name = if slot_index s.0 == slot_index name
    then Some (record { position = at; len = length s.1 })
    else section_from (at + length s.1) ss name

-- ---- the sections as they are laid

next_laid : (at end : ℕ) (ss : Sections) → end ≡ at + length (bytes_in ss)
    → next_start end (starts_from at ss) ≡ at
next_laid at end [] e = omega (arith, e)
next_laid at end (s ∷ ss) e = refl

end_behind : (at end : ℕ) (s : SectionName × List ℕ) (ss : Sections)
    → end ≡ at + length (bytes_in (s ∷ ss)) → end ≡ at + length s.1 + length (bytes_in ss)
end_behind at end s ss e = omega (arith, e, length-append s.1 (bytes_in ss))

pub sections_laid : (at end : ℕ) (ss : Sections) (name : SectionName)
    → end ≡ at + length (bytes_in ss) → section_of end (starts_from at ss) name
    ≡ section_from at ss name
sections_laid at end [] name e = refl
sections_laid at end (s ∷ ss) name e =
    let more = end_behind at end s ss e in
    let len : next_start end (starts_from (at + length s.1) ss) - at ≡ length s.1 =
    omega (arith, next_laid (at + length s.1) end ss more) in
    rw (len, sections_laid (at + length s.1) end ss name more) refl

-- none of them begins behind the next
pub laid_ascending : (at end : ℕ) (ss : Sections) → end ≡ at + length (bytes_in ss)
    → AreAscending end (starts_from at ss)
laid_ascending at end [] e = tt
laid_ascending at end (s ∷ ss) e =
    let more = end_behind at end s ss e in (
      omega (arith, next_laid (at + length s.1) end ss more),
      laid_ascending
          (at + length s.1) end ss more,
    )

-- ---- what is told of them

pub section_result : (at : ℕ) (ss : Sections) (name : SectionName) → AllByRecursion SectionFits ss
    → optional_result (section_from at ss name) ≡ Ok (place_from at ss name)
section_result at [] name fits = refl
section_result at (s ∷ ss) name fits =
    let large = lt-leb (2 ^ 32) (length s.1) (fits.0).short in
    elim (slot_index s.0 == slot_index name) as (λ (b : Bool).
    optional_result (if b then Some (record { position = at; len = length s.1 })
    else section_from (at + length s.1) ss name)
    ≡ Ok (if b then Some (record { offset = at; size = length s.1 })
    else place_from (at + length s.1) ss name)) [
      | true ↦ rw large refl
      | false ↦ section_result (at + length s.1) ss name fits.1
    ]

region_of : (r : Result Place Error) (p : Place) → (r >>= λ q. Ok (Some q)) ≡ Ok (Some p) → r ≡ Ok p
region_of (Ok q) p h = let same : Some q ≡ Some p = cc in let here : q ≡ p = cc in
    ap (λ (x : Place). Ok x) here
region_of (Err e) p h = absurd cc

pub needed_by : (o : Option Section) (p : Place) → optional_result o ≡ Ok (Some p)
    → needed_result o ≡ Ok p
needed_by None p h = absurd (let no : None ≡ Some p = cc in cc)
needed_by (Some s) p h = region_of (region_result s) p h

-- ---- some sections, and others behind them

or_cond : (b : Bool) (p : Place) (o more : Option Place)
    → cond b (Some p) (option_or o more) ≡ option_or (cond b (Some p) o) more
or_cond true p o more = refl
or_cond false p o more = refl

pub place_append : (at : ℕ) (xs ys : Sections) (name : SectionName)
    → place_from at (xs ++ ys) name ≡ option_or (place_from at xs name)
    (place_from (at + length (bytes_in xs)) ys name)
place_append at [] ys name = let none : at ≡ at + 0 = omega arith in
    ap (λ (n : ℕ). place_from n ys name) none
place_append at (s ∷ xs) ys name =
    let here : Place = record { offset = at; size = length s.1 } in
    let far : at + length s.1 + length (bytes_in xs) ≡ at + length (bytes_in (s ∷ xs)) =
    omega (arith, length-append s.1 (bytes_in xs)) in
    let b = slot_index s.0 == slot_index name in
    ap (λ (o : Option Place). cond b (Some here) o) (place_append (at + length s.1) xs ys name)
    ∙ ap (λ (n : ℕ). cond b (Some here) (option_or (place_from (at + length s.1) xs name)
    (place_from n ys name))) far
    ∙ or_cond b here (place_from (at + length s.1) xs name)
    (place_from (at + length (bytes_in (s ∷ xs))) ys name)

pub bytes_append : (xs ys : Sections) → bytes_in (xs ++ ys) ≡ bytes_in xs ++ bytes_in ys
bytes_append xs ys = flat_map-append (λ (s : SectionName × List ℕ). s.1) xs ys

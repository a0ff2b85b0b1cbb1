-- What a trailer says, and when it is refused.
use Rattle.std.proofs.Common.{◌≡◌, ℕ, ◌*◌, ◌-◌, ◌<◌, ◌≤◌, ◌||◌, not, nat_eq, Bool, true, false}
use Rattle.std.proofs.Common.{if◌then◌else◌, List, length, drop, map, refl, sym, ap, ◌∙◌, arith}
use Rattle.std.specs.Prelude.{Some, None}
use Rattle.std.specs.List.{list_any}
use Rattle.std.specs.Cmp.Lexicographic.{pointwise}
use Rattle.std.proofs.lemmas.List.{length-drop, length-take}
use Rattle.sst_entries.specs.declared.error.Error.TheVariants.{InvalidTrailer}
use Rattle.sst_blocks.specs.Sections.{section_names, slot_index, trailer_mark, trailer_of}
use Rattle.sst_blocks.specs.Sections.{body_of, section_at, section_in, is_past, trailer_fault}

-- the seven slots of a trailer
pub sections_read : (bytes cells : List ℕ) → cells ≡ trailer_of bytes
    → map (λ name. section_at (drop (16 * slot_index name) cells)) section_names
    ≡ map (section_in bytes) section_names
unfolding section_in
sections_read bytes cells e = ap (λ (cells : List ℕ). map
    (λ name. section_at (drop (16 * slot_index name) cells)) section_names) e

pub body_length : (bytes : List ℕ) → length (body_of bytes) ≡ length bytes - 120
body_length bytes = omega (arith, length-take (length bytes - 120) bytes)

bad : (short marked past : Bool) → past ≡ true
    → (if short || (marked || past) then Some InvalidTrailer else None) ≡ Some InvalidTrailer
bad true marked past e = refl
bad false true past e = refl
bad false false past e = rw e refl

fine : (short marked past : Bool) → short ≡ false → marked ≡ false → past ≡ false
    → (if short || (marked || past) then Some InvalidTrailer else None) ≡ None
fine short marked past a b c = rw (a, b, c) refl

-- a section that passes the end
pub trailer_passes : (bytes : List ℕ)
    → list_any (is_past (length bytes - 120)) (map (section_in bytes) section_names) ≡ true
    → trailer_fault bytes ≡ Some InvalidTrailer
trailer_passes bytes past = bad _ _ _ (ap (λ (end : ℕ). list_any (is_past end)
    (map (section_in bytes) section_names)) (body_length bytes) ∙ past)

-- no fault
pub trailer_fine : (bytes : List ℕ) → 120 ≤ length bytes
    → not (pointwise nat_eq (drop 112 (trailer_of bytes)) trailer_mark) ≡ false
    → list_any (is_past (length bytes - 120)) (map (section_in bytes) section_names) ≡ false
    → trailer_fault bytes ≡ None
trailer_fine bytes long marked past = fine _ _ _ (grind arith) marked
    (ap (λ (end : ℕ). list_any (is_past end) (map (section_in bytes) section_names))
    (body_length bytes) ∙ past)

-- ---- a trailer by itself, behind a body of a length

module _ (bytes trailer : List ℕ) (is : trailer_of bytes ≡ trailer) where
  trailer_length : length trailer ≡ length bytes - (length bytes - 120)
  trailer_length = sym (ap length is) ∙ length-drop (length bytes - 120) bytes

  pub short_trailer : length trailer < 120 → trailer_fault bytes ≡ Some InvalidTrailer
  short_trailer short =
      let len : length bytes < 120 = omega (arith, trailer_length, short) in
      grind (arith, len)

  long_bytes : 120 ≤ length trailer → 120 ≤ length bytes
  long_bytes long = omega (arith, trailer_length, long)

  marked : (short differs past : Bool) → differs ≡ true
      → (if short || (differs || past) then Some InvalidTrailer else None) ≡ Some InvalidTrailer
  marked true differs past e = refl
  marked false differs past e = rw e refl

  pub unmarked_trailer : not (pointwise nat_eq (drop 112 trailer) trailer_mark) ≡ true
      → trailer_fault bytes ≡ Some InvalidTrailer
  unmarked_trailer differs = marked _ _ _
      (ap (λ (t : List ℕ). not (pointwise nat_eq (drop 112 t) trailer_mark)) is ∙ differs)

  pub trailer_sections : map (λ name. section_at (drop (16 * slot_index name) trailer)) section_names
      ≡ map (section_in bytes) section_names
  trailer_sections = sections_read bytes trailer (sym is)

  module _ (end : ℕ) (len : length (body_of bytes) ≡ end) where
    ends : length bytes - 120 ≡ end
    ends = sym (body_length bytes) ∙ len

    pub past_trailer : list_any (is_past end)
        (map (λ name. section_at (drop (16 * slot_index name) trailer)) section_names) ≡ true
        → trailer_fault bytes ≡ Some InvalidTrailer
    past_trailer past = trailer_passes bytes
        (ap (λ (n : ℕ). list_any (is_past n) (map (section_in bytes) section_names)) ends
        ∙ ap (list_any (is_past end)) (sym trailer_sections) ∙ past)

    pub fine_trailer : 120 ≤ length trailer
        → not (pointwise nat_eq (drop 112 trailer) trailer_mark) ≡ false
        → list_any (is_past end)
        (map (λ name. section_at (drop (16 * slot_index name) trailer)) section_names) ≡ false
        → trailer_fault bytes ≡ None
    fine_trailer long same past = trailer_fine bytes (long_bytes long)
        (ap (λ (t : List ℕ). not (pointwise nat_eq (drop 112 t) trailer_mark)) is ∙ same)
        (ap (λ (n : ℕ). list_any (is_past n) (map (section_in bytes) section_names)) ends
        ∙ ap (list_any (is_past end)) (sym trailer_sections) ∙ past)

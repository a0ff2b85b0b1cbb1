-- The sections of a table's bytes: the body, then a trailer of 120 bytes with the range of each
-- section.
use Rattle.std.specs.Prelude.{◌≡◌, ℕ, ◌+◌, ◌-◌, ◌*◌, ◌≤◌, ◌==◌, ◌||◌, nat_lt, nat_eq, not, Bool}
use Rattle.std.specs.Prelude.{false, List, [], ◌∷◌, ◌++◌, length, take, drop, replicate, Option}
use Rattle.std.specs.Prelude.{Some, None, if◌then◌else◌}
use Rattle.std.specs.Cmp.Lexicographic.{pointwise}
use Rattle.std.specs.List.{flat_map, list_any}
use Rattle.sst_blocks.specs.declared.section.SectionName.{SectionName}
use Rattle.sst_blocks.specs.declared.section.SectionName.TheVariants.{Data, Index, Tli, Filter}
use Rattle.sst_blocks.specs.declared.section.SectionName.TheVariants.{FilterTli, TableVersion}
use Rattle.sst_blocks.specs.declared.section.SectionName.TheVariants.{Meta}
use Rattle.sst_blocks.specs.declared.section.Section.{Section}
use Rattle.sst_entries.specs.declared.error.Error.{Error}
use Rattle.sst_entries.specs.declared.error.Error.TheVariants.{InvalidTrailer}
use Rattle.sst_blocks.specs.Number.{le8, num8}

-- the order in which the trailer lists the sections
abbrev pub section_names : List SectionName
section_names = Data ∷ Index ∷ Tli ∷ Filter ∷ FilterTli ∷ TableVersion ∷ Meta ∷ []

-- a section's index in that order
abbrev pub slot_index : SectionName → ℕ
slot_index Data = 0
slot_index Index = 1
slot_index Tli = 2
slot_index Filter = 3
slot_index FilterTli = 4
slot_index TableVersion = 5
slot_index Meta = 6

-- the length of a trailer in bytes, and of the seven slots of 16 bytes at its front
abbrev pub trailer_len : ℕ
trailer_len = 120

abbrev pub slots_len : ℕ
slots_len = 112

-- LSMTSEC1
abbrev pub trailer_mark : List ℕ
trailer_mark = 0x4c ∷ 0x53 ∷ 0x4d ∷ 0x54 ∷ 0x53 ∷ 0x45 ∷ 0x43 ∷ 0x31 ∷ []

-- the bytes written so far, and the started sections, each with its offset
pub record Written : Type 0 where
  pub bytes : List ℕ
  pub started : List (SectionName × ℕ)

-- the start of the next section, or the end of the bytes
abbrev pub next_start : ℕ → List (SectionName × ℕ) → ℕ
next_start end [] = end
next_start end (s ∷ ss) = s.1

-- a started section extends to the next one, or to the end
abbrev pub section_of : ℕ → List (SectionName × ℕ) → SectionName → Option Section
section_of end [] name = None
section_of end (s ∷ ss) name =
    if slot_index s.0 == slot_index name
    then Some (record { position = s.1; len = next_start end ss - s.1 })
    else section_of end ss name

-- the sections start in ascending order, none past the end
abbrev pub AreAscending : ℕ → List (SectionName × ℕ) → Type 0
AreAscending end [] = Unit {0}
AreAscending end (s ∷ ss) = (s.1 ≤ next_start end ss) × AreAscending end ss

-- the trailer's slot for a section: its position and length, or 16 bytes 0xff
abbrev pub slot : Option Section → List ℕ
slot None = replicate 16 255
slot (Some s) = le8 s.position ++ le8 s.len

-- seven slots, then the magic number
abbrev pub trailer : Written → List ℕ
trailer w =
    flat_map (λ name. slot (section_of (length w.bytes) w.started name)) section_names
    ++ trailer_mark

-- a table's bytes: the body, then the trailer
abbrev pub finished : Written → List ℕ
finished w = w.bytes ++ trailer w

-- the body of a table's bytes, and its trailer
abbrev pub body_of : List ℕ → List ℕ
body_of bytes = take (length bytes - trailer_len) bytes

abbrev pub trailer_of : List ℕ → List ℕ
trailer_of bytes = drop (length bytes - trailer_len) bytes

-- the section in a slot
abbrev pub section_at : List ℕ → Option Section
section_at cells =
    if pointwise nat_eq (take 16 cells) (replicate 16 255) then None
    else Some (record { position = num8 cells; len = num8 (drop 8 cells) })

-- the range of a section by the trailer of a table's bytes
unfoldable pub section_in : List ℕ → SectionName → Option Section
section_in bytes name = section_at (drop (16 * slot_index name) (trailer_of bytes))

-- a section that extends past the end of the body
abbrev pub is_past : ℕ → Option Section → Bool
is_past end None = false
is_past end (Some s) = nat_lt end (s.position + s.len)

-- too few bytes, a wrong magic number, or a section past the body
abbrev pub is_bad_trailer : List ℕ → Bool
is_bad_trailer bytes =
    nat_lt (length bytes) trailer_len
    || (not (pointwise nat_eq (drop slots_len (trailer_of bytes)) trailer_mark)
    || list_any (λ name. is_past (length (body_of bytes)) (section_in bytes name)) section_names)

abbrev pub trailer_fault : List ℕ → Option Error
trailer_fault bytes = if is_bad_trailer bytes then Some InvalidTrailer else None

-- reading a table's bytes returns what was written: a valid trailer, the body, and each section's
-- range
pub record ReadsBack (w : Written) (bytes : List ℕ) : Type 0 where
  pub fine : trailer_fault bytes ≡ None
  pub body : body_of bytes ≡ w.bytes
  pub sections : (name : SectionName)
      → section_in bytes name ≡ section_of (length w.bytes) w.started name

-- Entries as words.
use Rattle.std.specs.Prelude.{◌≡◌, ◌<◌, ◌^◌, ◌==◌, ℕ, List, [], ◌∷◌, length, slice_index}
use Rattle.std.specs.Prelude.{Option, Some, None}
use Rattle.std.specs.List.{slice_split}
use Rattle.std.specs.Str.Parse.{AllDigits, digits_value}
use Rattle.sst_entries.specs.Entry.{Entry}
use Rattle.sst_entries.specs.declared.value_type.ValueType.{ValueType}
use Rattle.sst_entries.specs.declared.value_type.ValueType.TheVariants.{Value, Tombstone}
use Rattle.sst_entries.specs.declared.value_type.ValueType.TheVariants.{WeakTombstone, Indirection}
use Rattle.sst_tool.specs.lines.Escapes.{WordMeans}

-- The letter of a kind: V, T, W or I.
abbrev pub kind_letter : ValueType → ℕ
kind_letter Value = 86
kind_letter Tombstone = 84
kind_letter WeakTombstone = 87
kind_letter Indirection = 73

-- The parts of a line between its spaces.
abbrev pub line_words : List ℕ → List (List ℕ)
line_words line = slice_split (λ b. b == 32) line

-- The words of the rest of a line, if there is one.
abbrev pub line_words_behind : Option (List ℕ) → List (List ℕ)
line_words_behind None = []
line_words_behind (Some rest) = line_words rest

-- The word is a decimal number below 2^64, without leading zeros.
pub record IsNumberWord (word : List ℕ) : Type 0 where
  pub some : 0 < length word
  pub digits : AllDigits 10 word
  pub no_zeros : slice_index word 0 ≡ 48 → length word ≡ 1
  pub fits : digits_value 10 word < 2 ^ 64

-- The word spells this number.
pub record SpellsNumber (word : List ℕ) (n : ℕ) : Type 0 where
  pub number : IsNumberWord word
  pub value_is : n ≡ digits_value 10 word

-- The four words of a line.
pub record FourWords (line : List ℕ) : Type 0 where
  pub key : List ℕ
  pub number : List ℕ
  pub kind : List ℕ
  pub value : List ℕ
  pub are : line_words line ≡ key ∷ number ∷ kind ∷ value ∷ []

-- The line's words spell the entry.
pub record SpellsEntry (line : List ℕ) (e : Entry) : Type 0 where
  pub words : FourWords line
  pub key_is : WordMeans words.key e.user_key
  pub seqno_is : SpellsNumber words.number e.seqno
  pub kind_is : words.kind ≡ kind_letter e.kind ∷ []
  pub value_is : WordMeans words.value e.value

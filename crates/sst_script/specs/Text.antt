-- The words of a script's lines.
use Rattle.std.specs.Prelude.{◌≡◌, ℕ, ◌<◌, ◌^◌, List, [], ◌∷◌, length, slice_index}
use Rattle.std.specs.Str.Parse.{AllDigits, digits_value}
use Rattle.sst_entries.specs.declared.value_type.ValueType.{ValueType}
use Rattle.sst_entries.specs.declared.value_type.ValueType.TheVariants.{Value, Tombstone}
use Rattle.sst_entries.specs.declared.value_type.ValueType.TheVariants.{WeakTombstone, Indirection}

-- the letter of a kind: V, T, W or I
abbrev pub letter_of : ValueType → ℕ
letter_of Value = 86
letter_of Tombstone = 84
letter_of WeakTombstone = 87
letter_of Indirection = 73

-- the printed form of bytes: - for none
abbrev pub printed : List ℕ → List ℕ
printed [] = 45 ∷ []
printed (b ∷ bs) = b ∷ bs

-- decimal digits of a number that fits 64 bits, without leading zeros
pub record IsNumber (word : List ℕ) : Type 0 where
  pub some : 0 < length word
  pub digits : AllDigits 10 word
  pub no_zeros : slice_index word 0 ≡ 48 → length word ≡ 1
  pub fits : digits_value 10 word < 2 ^ 64

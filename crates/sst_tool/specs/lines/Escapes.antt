-- Bytes as one word of visible ASCII.
use Rattle.std.specs.Prelude.{◌≡◌, ◌≢◌, ◌⊎◌, ◌<◌, ◌/◌, ◌%◌, ◌&&◌, ◌==◌, ℕ, Bool, true, not}
use Rattle.std.specs.Prelude.{List, [], ◌∷◌, ◌++◌}
use Rattle.std.specs.Char.{digit_char, is_ascii_graphic}

-- The byte is written as itself: visible ASCII other than a backslash.
abbrev pub is_plain : ℕ → Bool
is_plain b = is_ascii_graphic b && not (b == 92)

-- The escape of a byte: \x and two hex digits.
abbrev pub escaped : ℕ → List ℕ
escaped b = 92 ∷ 120 ∷ digit_char (b / 16) ∷ digit_char (b % 16) ∷ []

-- The word starts with this byte, as itself or as an escape, and goes on with the rest.
abbrev pub Begins : List ℕ → ℕ → List ℕ → Type 0
Begins word b rest =
    (b < 256) × (((is_plain b ≡ true) × (word ≡ b ∷ rest)) ⊎ (word ≡ escaped b ++ rest))

-- The word spells these bytes one after another.
abbrev pub AreCodes : List ℕ → List ℕ → Type 0
AreCodes word [] = word ≡ []
AreCodes word (b ∷ bs) = (rest : List ℕ) × Begins word b rest × AreCodes rest bs

-- The word means these bytes: - for none, and any other what it spells.
abbrev pub WordMeans : List ℕ → List ℕ → Type 0
WordMeans word [] = word ≡ 45 ∷ []
WordMeans word (b ∷ bs) = (word ≢ 45 ∷ []) × AreCodes word (b ∷ bs)

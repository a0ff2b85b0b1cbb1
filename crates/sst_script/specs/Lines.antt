-- The lines of a script.
use Rattle.std.specs.Prelude.{◌≡◌, ◌<◌, ℕ, ◌==◌, Bool, true, false, List, [], ◌∷◌, ◌++◌, length}
use Rattle.std.specs.Prelude.{Option, Some, IfSome, if◌then◌else◌}
use Rattle.std.specs.List.{onto_first}
use Rattle.std.specs.Io.KnownBytes.{IsAtEnd}
use Rattle.std.specs.Io.BufRead.{first_piece, drop_through}

-- the lines of some bytes, each without its end; the last one may have none
abbrev pub lines_of : List ℕ → List (List ℕ)
lines_of [] = []
lines_of (b ∷ bs) = if b == 10 then [] ∷ lines_of bs else onto_first b (lines_of bs)

-- known bytes begin with a line, and lose it with its end
abbrev pub LosesLine : Option (List ℕ) → Option (List ℕ) → List ℕ → Type 0
LosesLine old new line = IfSome old (λ bytes.
    (0 < length bytes) × (line ≡ first_piece 10 bytes) × (new ≡ Some (drop_through 10 bytes)))

-- a line was read of known bytes, or there was none left
abbrev pub ReadsLine : Option (List ℕ) → Option (List ℕ) → List ℕ → Bool → Type 0
ReadsLine old new line true = LosesLine old new line
ReadsLine old new line false = IsAtEnd old

-- the lines of known bytes are these lines, and then others
abbrev pub HasLines : Option (List ℕ) → List (List ℕ) → List (List ℕ) → Type 0
HasLines input front rest = IfSome input (λ bytes. lines_of bytes ≡ front ++ rest)

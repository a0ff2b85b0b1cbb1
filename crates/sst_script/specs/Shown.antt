-- The text that is written, where writing may fail.
use Rattle.std.specs.Prelude.{◌≡◌, ℕ, List, ◌++◌, Option, Result, MatchResult}
use Rattle.std.specs.Io.KnownBytes.{Appends}

-- known bytes grow by a prefix of a text
pub record AppendsFront (old new : Option (List ℕ)) (text : List ℕ) : Type 0 where
  pub front : List ℕ
  pub rest : List ℕ
  pub is : text ≡ front ++ rest
  pub appends : Appends old new front

-- a text was written, or, if that failed, a prefix of it
abbrev pub ShowsText : {X E : Type 0} → Option (List ℕ) → Option (List ℕ) → Result X E → List ℕ
    → Type 0
ShowsText old new r text =
    MatchResult r (λ _. Appends old new text) (λ _. AppendsFront old new text)

-- The results of a seek.
use Rattle.std.specs.Prelude.{◌≡◌, ◌↔◌, Bool, true, IsTrue, []}
use Rattle.sst_entries.specs.Span.{Span, rest_in}
use Rattle.sst_blocks.specs.Handle.{Handle}

-- It returns whether a handle is left.
abbrev pub AnswersAny : Span Handle → Bool → Type 0
AnswersAny s any = IsTrue any ↔ (rest_in s ≡ [] → ⊥)

-- It returns true, since the block is not loaded yet.
abbrev pub AnswersTrue : {S : Type 0} → S → Bool → Type 0
AnswersTrue s any = any ≡ true

-- A source that may be asked may be asked on. Assumes `Logic`.
use Rattle.std.proofs.Common.{◌≡◌, Option, Some, None, ◌∷◌, [], refl, sym, ap, ◌∙◌}
use Rattle.sst_entries.specs.Stream.{CanYield}
use Rattle.sst_entries.specs.declared.stream.Direction.TheVariants.{Back, Front}

module _ {S A : Type 0} (front back : S → Option A → S → Type 0) (can can_back : S → Type 0) where
  pub behind_front : (s : S) (r : Option A) (t : S) → CanYield front back can can_back s
      → front s r t → CanYield front back can can_back t
  behind_front s r t d step = record {
    at = λ ends rs u runs. d.at (Front ∷ ends) (r ∷ rs) u (t, step, runs);
  }

  pub behind_back : (s : S) (r : Option A) (t : S) → CanYield front back can can_back s
      → back s r t → CanYield front back can can_back t
  behind_back s r t d step = record {
    at = λ ends rs u runs. d.at (Back ∷ ends) (r ∷ rs) u (t, step, runs);
  }

  pub may_front : (s : S) → CanYield front back can can_back s → can s
  may_front s d = (d.at [] [] s refl).0

  pub may_back : (s : S) → CanYield front back can can_back s → can_back s
  may_back s d = (d.at [] [] s refl).1

pub ruleset asking = (behind_front, behind_back, may_front, may_back)

abbrev source_or : {S : Type 0} → S → Option S → S
source_or {S} s (Some t) = t
source_or {S} s None = s

-- what reads several runs is one source
pub same_source : {S : Type 0} (kept : Option S) (a s : S) → kept ≡ Some a → kept ≡ Some s → a ≡ s
same_source {S} kept a s is same = ap (source_or s) (sym is) ∙ ap (source_or s) same

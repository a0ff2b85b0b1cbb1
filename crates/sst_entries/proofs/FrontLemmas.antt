-- A source of both ends, taken from the front alone.
use Rattle.std.proofs.Common.{List, [], ◌∷◌}
use Rattle.std.specs.Prelude.{Option, Bool}
use Rattle.sst_entries.specs.declared.stream.Direction.{Direction}
use Rattle.sst_entries.specs.declared.stream.Direction.TheVariants.{Front, Back}
use Rattle.sst_entries.specs.Stream.{Runs, YieldsExactly, CanYield, nowhere}

runs_in_front : {S X : Type 0} (front back : S → Option X → S → Type 0) (ends : List Direction)
    (rs : List (Option X)) (s t : S) → Runs front nowhere s ends rs t → Runs front back s ends rs t
runs_in_front front back [] [] s t runs = runs
runs_in_front front back [] (r ∷ rs) s t runs = absurd runs
runs_in_front front back (e ∷ ends) [] s t runs = absurd runs
runs_in_front front back (Front ∷ ends) (r ∷ rs) s t runs =
    (runs.0, runs.1, runs_in_front front back ends rs runs.0 t runs.2)
runs_in_front front back (Back ∷ ends) (r ∷ rs) s t runs = absurd runs.1

pub yields_in_front : {S X : Type 0} (stops : Option X → Bool)
    (front back : S → Option X → S → Type 0) (s : S) (xs : List X) → YieldsExactly stops front back s xs
    → YieldsExactly stops front nowhere s xs
yields_in_front stops front back s xs d = record {
  answers = λ ends rs t runs fine. d.answers ends rs t
      (runs_in_front front back ends rs s t runs) fine;
}

pub can_in_front : {S X : Type 0} (front back : S → Option X → S → Type 0)
    (can can_back : S → Type 0) (s : S) → CanYield front back can can_back s
    → CanYield front nowhere can can s
can_in_front front back can can_back s d = record {
  at = λ ends rs t runs. let both = d.at ends rs t
      (runs_in_front front back ends rs s t runs) in (both.0, both.0);
}

-- In any order of calls at both ends, results are yielded up to the first error.
use Rattle.std.specs.Prelude.{◌≡◌, List, [], ◌∷◌, map, Option, Some, None, Result, Ok, Err}
use Rattle.sst_entries.specs.declared.error.Error.{Error}
use Rattle.sst_entries.specs.declared.stream.Direction.{Direction}
use Rattle.sst_entries.specs.Error.{is_memory}
use Rattle.sst_entries.specs.Stream.{yield_each, answer_stops, CanYield, EndsAtError, NoneStops, Runs}

-- Results up to and with the first error, then `None`.
abbrev pub ended_at_error : {X : Type 0} → List (Option (Result X Error))
    → List (Option (Result X Error))
ended_at_error [] = []
ended_at_error (None ∷ rs) = None ∷ ended_at_error rs
ended_at_error (Some (Ok x) ∷ rs) = Some (Ok x) ∷ ended_at_error rs
ended_at_error (Some (Err e) ∷ rs) = Some (Err e) ∷ map (λ _. None) rs

-- Except for `OutOfMemory`, the results at any ends are those of `deal` up to the first error.
-- Calls are always allowed, and after any error each returns `None`.
pub record YieldsEnding {S X : Type 0} (front back : S → Option (Result X Error) → S → Type 0)
    (may may_back : S → Type 0) (s : S) (xs : List (Result X Error)) : Type 0 where
  pub answers : (ends : List Direction) (rs : List (Option (Result X Error))) (t : S)
      → Runs front back s ends rs t → NoneStops (answer_stops is_memory) rs
      → rs ≡ ended_at_error (yield_each xs ends)
  pub can : CanYield front back may may_back s
  pub ends : EndsAtError front back s

-- The same where every call is allowed.
abbrev pub YieldsFreely : {S X : Type 0} (front back : S → Option (Result X Error) → S → Type 0)
    → S → List (Result X Error) → Type 0
YieldsFreely front back s xs = YieldsEnding front back (λ _. Unit {0}) (λ _. Unit {0}) s xs

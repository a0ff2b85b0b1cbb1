-- Dealing up to an error, as long as no answer is an error.
use Rattle.std.proofs.Common.{◌≡◌, refl, sym, Bool, List, [], ◌∷◌}
use Rattle.std.specs.Prelude.{Option, Some, None, Ok, Err}
use Rattle.sst_entries.specs.Entry.{Entry}
use Rattle.sst_entries.specs.declared.error.Error.{Error}
use Rattle.sst_entries.specs.Stream.{YieldsExactly, NoneStops, answer_stops, ok_results}
use Rattle.lsm_sorted.specs.merge.Ends.{R}
use Rattle.lsm_sorted.specs.merge.Merge.{Follows, YieldsUntil}
use Rattle.lsm_sorted.specs.merge.MergeLaws.{every_error}

fine_for : (stops : Error → Bool) (rs : List (Option R)) → NoneStops (answer_stops every_error) rs
    → NoneStops (answer_stops stops) rs
fine_for stops [] h = tt
fine_for stops (None ∷ rs) h = (refl, fine_for stops rs h.1)
fine_for stops (Some (Ok x) ∷ rs) h = (refl, fine_for stops rs h.1)
fine_for stops (Some (Err e) ∷ rs) h = absurd cc

-- where no answer is an error, what follows is what is told
reported_by_all : (errors : List Error) (returned rs : List (Option R))
    → NoneStops (answer_stops every_error) rs → Follows errors returned rs → rs ≡ returned
reported_by_all errors returned [] h f = sym f
reported_by_all errors [] (r ∷ rs) h f = absurd f
reported_by_all errors (d ∷ returned) (None ∷ rs) h f = let one = f.0 in let more =
    reported_by_all errors returned rs h.1 f.2 in cc (one, more)
reported_by_all errors (d ∷ returned) (Some (Ok x) ∷ rs) h f = let one = f.0 in let more =
    reported_by_all errors returned rs h.1 f.1 in cc (one, more)
reported_by_all errors (d ∷ returned) (Some (Err e) ∷ rs) h f = absurd cc

pub yields_until_error : {S : Type 0} (stops : Error → Bool) (front back : S → Option R → S → Type 0)
    (s : S) (xs : List Entry) (errors : List Error) → YieldsUntil stops front back s xs errors
    → YieldsExactly (answer_stops every_error) front back s (ok_results xs)
yields_until_error stops front back s xs errors d =
    record {
      answers = λ ends rs t runs fine. reported_by_all errors _ rs fine
          (d.answers ends rs t runs (fine_for stops rs fine));
    }

-- What is said of sources, said of lists.
use Rattle.std.proofs.Common.{◌≡◌, refl, ◌∙◌, ap, false, List}
use Rattle.std.specs.Prelude.{Option, Some, None, Ok, Err}
use Rattle.sst_entries.specs.Stream.{first, but_first, front_of, answer_stops, YieldsFirst}
use Rattle.lsm_sorted.specs.merge.Ends.{R}
use Rattle.lsm_sorted.specs.Outlook.{IsStep, nothing_stops, IsSame}

pub never_stops : (r : Option R) → answer_stops nothing_stops r ≡ false
never_stops None = refl
never_stops (Some (Ok x)) = refl
never_stops (Some (Err e)) = refl

pub same_first : (r : Option R) (xs ys : List R) → IsStep front_of r xs ys
    → YieldsFirst nothing_stops IsSame xs r ys
same_first r xs ys h zs e fine = (h.0 ∙ ap first e, h.1 ∙ ap but_first e)

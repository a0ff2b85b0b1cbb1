-- One step of a stream of the newest versions, on the remaining list of results.
use Rattle.std.specs.Prelude.{ℕ, Bool, false, cond, List, [], ◌∷◌, reverse, Option, Some, None, Ok}
use Rattle.std.specs.Prelude.{Err}
use Rattle.sst_entries.specs.Entry.{Entry}
use Rattle.sst_entries.specs.declared.stream.Direction.{Direction}
use Rattle.sst_entries.specs.declared.stream.Direction.TheVariants.{Front, Back}
use Rattle.lsm_sorted.specs.merge.Ends.{R}
use Rattle.sst_entries.specs.Key.{same_key, key_lt}

-- a result is an entry with this key
abbrev pub is_of : List ℕ → R → Bool
is_of k (Ok x) = same_key x.user_key k
is_of k (Err e) = false

-- the list after its longest prefix of entries with this key
abbrev pub after_key : List ℕ → List R → List R
after_key k [] = []
after_key k (r ∷ rs) = cond (is_of k r) (after_key k rs) (r ∷ rs)

-- an error that follows is returned and consumed; else x is returned
abbrev pub settle : Entry → List R → Option R × List R
settle x [] = (Some (Ok x), [])
settle x (Ok y ∷ rs) = (Some (Ok x), Ok y ∷ rs)
settle x (Err e ∷ rs) = (Some (Err e), rs)

abbrev pub front_step : List R → Option R × List R
front_step [] = (None, [])
front_step (Ok x ∷ rs) = settle x (after_key x.user_key rs)
front_step (Err e ∷ rs) = (Some (Err e), rs)

-- from x on, the last entry of the longest prefix with non-decreasing keys, and the list after it
abbrev pub climb : Entry → List R → Entry × List R
climb x [] = (x, [])
climb x (Ok y ∷ rs) = cond (key_lt y.user_key x.user_key) (x, Ok y ∷ rs) (climb y rs)
climb x (Err e ∷ rs) = (x, Err e ∷ rs)

-- the step at the back of a list, given the reversed list
abbrev pub step_in_reverse : List R → Option R × List R
step_in_reverse [] = (None, [])
step_in_reverse (Ok x ∷ rs) = settle (climb x rs).0 (climb x rs).1
step_in_reverse (Err e ∷ rs) = (Some (Err e), rs)

abbrev pub back_step : List R → Option R × List R
back_step xs = ((step_in_reverse (reverse xs)).0, reverse (step_in_reverse (reverse xs)).1)

-- the results of steps at these ends, in turn
abbrev pub newest_answers : List R → List Direction → List (Option R)
newest_answers xs [] = []
newest_answers xs (Front ∷ ends) = (front_step xs).0 ∷ newest_answers (front_step xs).1 ends
newest_answers xs (Back ∷ ends) = (back_step xs).0 ∷ newest_answers (back_step xs).1 ends

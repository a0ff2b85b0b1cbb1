-- Sorted lists merged in order, with the first error at its position.
use Rattle.std.specs.Prelude.{Bool, true, false, cond, List, [], ◌∷◌, ◌++◌, map, Option, Some, None}
use Rattle.std.specs.Prelude.{Ok, Err}
use Rattle.std.specs.Ordering.{is_gt}
use Rattle.sst_entries.specs.Entry.{Entry}
pub use Rattle.sst_entries.specs.Stream.{up_to_error}
use Rattle.lsm_sorted.specs.merge.Ends.{R}
use Rattle.lsm_sorted.specs.merge.Union.{item_cmp}

-- a result, and the entry that determines its position: itself, or the last entry before an error
pub record Placed : Type 0 where
  pub at : Option Entry
  pub is : R

-- the results of a list with their positions, after an optional entry
abbrev pub places_of : Option Entry → List R → List Placed
places_of before [] = []
places_of before (Ok x ∷ rs) = record { at = Some x; is = Ok x } ∷ places_of (Some x) rs
places_of before (Err e ∷ rs) = record { at = before; is = Err e } ∷ places_of before rs

-- one position sorts after another; the head of a list sorts first
abbrev pub is_after : Option Entry → Option Entry → Bool
is_after None p = false
is_after (Some x) None = true
is_after (Some x) (Some y) = is_gt (item_cmp x y)

-- p inserted before the first of ps that it does not sort after
abbrev pub put_in_place : Placed → List Placed → List Placed
put_in_place p [] = p ∷ []
put_in_place p (q ∷ ps) = cond (is_after p.at q.at) (q ∷ put_in_place p ps) (p ∷ q ∷ ps)

-- sorted by position; a stable sort
abbrev pub sort_places : List Placed → List Placed
sort_places [] = []
sort_places (p ∷ ps) = put_in_place p (sort_places ps)

-- the results of all lists with their positions, list by list
abbrev pub all_placed : List (List R) → List Placed
all_placed [] = []
all_placed (rs ∷ lists) = places_of None rs ++ all_placed lists

-- the entries of all lists sorted stably, up to the first error, which directly follows the
-- preceding entry of its list
abbrev pub merge_of : List (List R) → List R
merge_of lists = up_to_error (map (λ (p : Placed). p.is) (sort_places (all_placed lists)))

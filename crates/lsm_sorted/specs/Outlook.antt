-- A source with the entries read ahead from it, and the results that the source returned in calls.
use Rattle.std.specs.Prelude.{◌≡◌, Bool, true, false, List, [], ◌∷◌, ◌++◌, reverse, Option, Some}
use Rattle.std.specs.Prelude.{None}
use Rattle.sst_entries.specs.declared.stream.Direction.{Direction}
use Rattle.sst_entries.specs.declared.stream.Direction.TheVariants.{Front, Back}
use Rattle.sst_entries.specs.declared.error.Error.{Error}
use Rattle.lsm_sorted.specs.declared.heap.ends.Ends.{Ends}
use Rattle.lsm_sorted.specs.merge.Ends.{R, new_ends}

-- a source, with the entries before and after its remaining ones
pub record Outlook (S : Type 0) : Type 0 where
  pub source : Ends S
  pub ahead : List R
  pub behind : List R

-- a source before any call, with nothing read ahead
abbrev pub before_any : {S : Type 0} → S → Outlook S
before_any s = record { source = new_ends s; ahead = []; behind = [] }

-- the remaining list, if the source still yields `rest`
abbrev pub list_of : {S : Type 0} → Outlook S → List R → List R
list_of o rest = o.ahead ++ (rest ++ o.behind)

-- a source that has ended yields nothing more
abbrev pub MayGive : Bool → List R → Type 0
MayGive true rest = rest ≡ []
MayGive false rest = Unit {0}

-- the results of calls that returned one
abbrev pub results_in : List (Option R) → List R
results_in [] = []
results_in (None ∷ rs) = results_in rs
results_in (Some x ∷ rs) = x ∷ results_in rs

-- results taken in turn from an end, put back before or after the rest
abbrev pub with_rest : Direction → List R → List R → List R
with_rest Front xs rest = xs ++ rest
with_rest Back xs rest = rest ++ reverse xs

-- whether a source has ended after these results
abbrev pub is_over : Bool → List (Option R) → Bool
is_over done [] = done
is_over done (None ∷ rs) = is_over true rs
is_over done (Some x ∷ rs) = is_over done rs

-- a source that has ended is not called again
abbrev pub StopsAtNone : Bool → List (Option R) → Type 0
StopsAtNone true rs = rs ≡ []
StopsAtNone false [] = Unit {0}
StopsAtNone false (None ∷ rs) = StopsAtNone true rs
StopsAtNone false (Some x ∷ rs) = StopsAtNone false rs

-- the result for a list, and the remaining list, are those of a step
abbrev pub IsStep : (List R → Option R × List R) → Option R → List R → List R → Type 0
IsStep stepped r xs ys = (r ≡ (stepped xs).0) × (ys ≡ (stepped xs).1)

-- for statements about plain lists: no error is in `stops`, and a list represents itself
abbrev pub nothing_stops : Error → Bool
nothing_stops e = false

abbrev pub IsSame : List R → List R → Type 0
IsSame xs ys = xs ≡ ys

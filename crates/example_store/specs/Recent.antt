-- Entries in order, and one that is inserted.
use Rattle.std.specs.Prelude.{◌≡◌, ℕ, IfOk, List, ◌∷◌, ◌++◌, Option, Result}
use Rattle.std.specs.declared.ops.Bound.{Bound}
use Rattle.lsm_tables.specs.Words.{Entry, Error, YieldsList, point, within}

-- an entry was inserted into a list, and each read finds it before all others
pub record IsPut (e : Entry) (old new : List Entry) : Type 0 where
  pub front : List Entry
  pub behind : List Entry
  pub old_is : old ≡ front ++ behind
  pub new_is : new ≡ front ++ e ∷ behind
  pub reads : (key : List ℕ) (bound : ℕ) → point new key bound ≡ point (e ∷ old) key bound

-- from these ends, a call returned a source that yields the part of a list within two bounds
abbrev pub YieldsPart : {S : Type 0} (front back : S → Option (Result Entry Error) → S → Type 0)
    → Bound (List ℕ) → Bound (List ℕ) → List Entry → Result S Error → Type 0
YieldsPart front back low high es r = IfOk r (YieldsList front back (within low high es))

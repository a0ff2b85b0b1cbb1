-- Parts that are not loaded yet, and one load of them.
use Rattle.std.specs.Prelude.{◌≡◌, ℕ, suc, ◌+◌, ◌≤◌, false, List, [], ◌∷◌, Option, Some, None}
use Rattle.std.specs.Prelude.{Result, Ok, Err}
use Rattle.std.specs.List.{flat_map}
use Rattle.std.specs.Option.{option_or}
use Rattle.sst_entries.specs.declared.error.Error.{Error}
use Rattle.sst_entries.specs.declared.stream.Direction.{Direction}
use Rattle.sst_entries.specs.Error.{is_memory}
use Rattle.lsm_iters.specs.walk.Ends.{Remains, taken_at}

-- An unloaded part: its results or the one error of loading it, and its error that precedes
-- allocation.
pub record Loading (X : Type 0) : Type 0 where
  pub results : List (Result X Error)
  pub early : Option Error

-- The unloaded parts, with an error instead of a part whose handle cannot be read. The loads are
-- those beside the parts' own: for their handles, and within loaded parts.
pub record Coming (X : Type 0) : Type 0 where
  pub parts : List (Result (Loading X) Error)
  pub loads : ℕ

-- No part and no load is left.
pub record IsDone {X : Type 0} (c : Coming X) : Type 0 where
  pub parts : c.parts ≡ []
  pub loads : c.loads ≡ 0

-- The results of all parts, concatenated.
abbrev pub results_of : {X : Type 0} → Result (Loading X) Error → List (Result X Error)
results_of (Ok part) = part.results
results_of (Err e) = Err e ∷ []

abbrev pub all_results : {X : Type 0} → List (Result (Loading X) Error) → List (Result X Error)
all_results parts = flat_map results_of parts

-- A count, or an error, that applies only if the list before it is empty.
abbrev pub none_behind : {X : Type 0} → List X → ℕ → ℕ
none_behind [] n = n
none_behind (x ∷ xs) n = 0

abbrev pub early_behind : {X : Type 0} → List X → Option Error → Option Error
early_behind [] early = early
early_behind (x ∷ xs) early = None

-- The number of parts loaded for the next result: those up to the first that is not empty.
abbrev pub needed : {X : Type 0} → List (Result (Loading X) Error) → ℕ
needed [] = 0
needed (Ok part ∷ parts) = suc (none_behind part.results (needed parts))
needed (Err e ∷ parts) = 0

-- The error among these parts that precedes allocation.
abbrev pub early_among : {X : Type 0} → List (Result (Loading X) Error) → Option Error
early_among [] = None
early_among (Ok part ∷ parts) =
    option_or part.early (early_behind part.results (early_among parts))
early_among (Err e ∷ parts) = None

-- A step takes the handle of the part at an end, an error instead, or none if none is left.
abbrev pub Names : {X : Type 0} → Direction → Coming X → Option (Result (Loading X) Error)
    → Coming X → Type 0
Names at s None t = (s.parts ≡ []) × IsDone t
Names at s (Some (Ok part)) t = taken_at at s.parts ≡ (Some (Ok part), t.parts)
Names at s (Some (Err e)) t =
    (is_memory e ≡ false → (taken_at at s.parts).0 ≡ Some (Err e))
    × (IsDone s → ⊥)
    × IsDone t

-- The result of loading the named part: the part or its error, except for `OutOfMemory`.
abbrev pub ReportsOf : {T X : Type 0} → (T → Remains X) → Option (Result (Loading X) Error)
    → Option (Result T Error) → Type 0
ReportsOf left None r = r ≡ None
ReportsOf left (Some (Err e)) r = r ≡ Some (Err e)
ReportsOf left (Some (Ok part)) None = ⊥
ReportsOf left (Some (Ok part)) (Some (Ok loaded)) = (left loaded).results ≡ part.results
ReportsOf left (Some (Ok part)) (Some (Err e)) = is_memory e ≡ false → Err e ∷ [] ≡ part.results

-- The named part's error that precedes allocation.
abbrev pub early_named : {X : Type 0} → Option (Result (Loading X) Error) → Option Error
early_named None = None
early_named (Some (Ok part)) = part.early
early_named (Some (Err e)) = None

-- The number of loads left within a loaded part.
abbrev pub own_of : {T X : Type 0} → (T → Remains X) → Option (Result T Error) → ℕ
own_of left None = 0
own_of left (Some (Ok loaded)) = (left loaded).loads
own_of left (Some (Err e)) = 0

-- One load of the next part at an end. Its own loads were counted before, and an error that
-- precedes allocation is always returned.
pub record LoadGives {P T X : Type 0} (left : T → Remains X) (coming : P → Coming X)
    (keeps : P → Option (Result (Loading X) Error) → P → Type 0)
    (at : Direction) (s : P) (r : Option (Result T Error)) (t : P) : Type 0 where
  pub named : Option (Result (Loading X) Error)
  pub names : Names at (coming s) named (coming t)
  pub returned : ReportsOf left named r
  pub loads : own_of left r + (coming t).loads ≤ (coming s).loads
  pub first : (f : Error) → early_named named ≡ Some f → r ≡ Some (Err f)
  pub kept : keeps s named t

-- A sequence of loads, by the parts they named, the last load first.
abbrev pub Loads : {P X : Type 0} → (P → Option (Result (Loading X) Error) → P → Type 0) → P
    → List (Option (Result (Loading X) Error)) → P → Type 0
Loads keeps s [] t = t ≡ s
Loads {P = P} keeps s (named ∷ more) t = (u : P) × Loads keeps s more u × keeps u named t

-- The number of parts that they loaded.
abbrev pub loads_in : {X : Type 0} → List (Option (Result (Loading X) Error)) → ℕ
loads_in [] = 0
loads_in (None ∷ more) = loads_in more
loads_in (Some (Ok part) ∷ more) = suc (loads_in more)
loads_in (Some (Err e) ∷ more) = loads_in more

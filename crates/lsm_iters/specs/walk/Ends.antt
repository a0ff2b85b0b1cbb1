-- Lists seen from an end, and one step at an end.
use Rattle.std.specs.Prelude.{◌≡◌, ℕ, ◌≤◌, false, List, [], ◌++◌, reverse, Option, Some, None}
use Rattle.std.specs.Prelude.{Result, Ok, Err}
use Rattle.sst_entries.specs.declared.error.Error.{Error}
use Rattle.sst_entries.specs.declared.stream.Direction.{Direction}
use Rattle.sst_entries.specs.declared.stream.Direction.TheVariants.{Front, Back}
use Rattle.sst_entries.specs.Error.{is_memory}
use Rattle.sst_entries.specs.Span.{Span, rest_in}
use Rattle.sst_entries.specs.Stream.{front_of, back_of, ok_results}

-- The item at an end of a list, and the rest.
abbrev pub taken_at : {X : Type 0} → Direction → List X → Option X × List X
taken_at Front xs = front_of xs
taken_at Back xs = back_of xs

-- A list in the order in which an end yields it.
abbrev pub seen_from : {X : Type 0} → Direction → List X → List X
seen_from Front xs = xs
seen_from Back xs = reverse xs

-- Two lists joined, the first nearer to an end.
abbrev pub laid_from : {X : Type 0} → Direction → List X → List X → List X
laid_from Front near far = near ++ far
laid_from Back near far = far ++ near

-- The results that are left, and a bound on the loads that they may take.
pub record Remains (X : Type 0) : Type 0 where
  pub results : List (Result X Error)
  pub loads : ℕ

-- No result and no load is left.
pub record IsOver {X : Type 0} (l : Remains X) : Type 0 where
  pub results : l.results ≡ []
  pub loads : l.loads ≡ 0

-- Nothing left.
abbrev pub nothing : {X : Type 0} → Remains X
nothing = record { results = []; loads = 0 }

-- The results left of a part, if there is one.
abbrev pub remains_in : {T X : Type 0} → (T → Remains X) → Option T → Remains X
remains_in left None = nothing
remains_in left (Some part) = left part

-- The results left of a span of a list, without loads; and the list left of an optional span.
abbrev pub span_remains : {X : Type 0} → Span X → Remains X
span_remains s = record { results = ok_results (rest_in s); loads = 0 }

abbrev pub rest_of : {X : Type 0} → Option (Span X) → List X
rest_of None = []
rest_of (Some s) = rest_in s

-- One result at an end: the item there, or `None` if nothing is left. An allocation failure may
-- replace any result, unless everything is over.
abbrev pub StepAnswers : {X : Type 0} → Direction → Remains X → Option (Result X Error) → Remains X
    → Type 0
StepAnswers at s None t = (s.results ≡ []) × IsOver t
StepAnswers at s (Some (Ok x)) t = taken_at at s.results ≡ (Some (Ok x), t.results)
StepAnswers at s (Some (Err e)) t =
    (is_memory e ≡ false → (taken_at at s.results).0 ≡ Some (Err e)) × (IsOver s → ⊥)

-- One step at an end; it leaves no more loads than before.
pub record StepGives {X : Type 0} (at : Direction) (s : Remains X) (r : Option (Result X Error))
    (t : Remains X) : Type 0 where
  pub answer : StepAnswers at s r t
  pub loads : t.loads ≤ s.loads

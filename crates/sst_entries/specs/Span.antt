-- A window of a list that is read from both ends.
use Rattle.std.specs.Prelude.{◌≡◌, ℕ, ◌+◌, Bool, true, List, [], ◌∷◌, Option, Some, None, Result}
use Rattle.std.specs.Prelude.{Ok, Err, slice_range, if◌then◌else◌}
use Rattle.sst_entries.specs.declared.error.Error.{Error}
use Rattle.sst_entries.specs.declared.error.Error.TheVariants.{OutOfMemory}
use Rattle.sst_entries.specs.Stream.{ok_results}

-- The list, and the indexes from which and up to which it is read.
pub record Span (X : Type 0) : Type 0 where
  pub list : List X
  pub from : ℕ
  pub to : ℕ

-- The items that remain; none once the indexes have crossed.
abbrev pub rest_in : {X : Type 0} → Span X → List X
rest_in s = slice_range s.list s.from s.to

-- The length of the longest prefix whose items pass a test.
abbrev pub front_length : {X : Type 0} → (X → Bool) → List X → ℕ
front_length p [] = 0
front_length p (x ∷ xs) = if p x then 1 + front_length p xs else 0

-- A span denotes the remaining items as results, for readers that `OutOfMemory` stops.
abbrev pub SpanHas : {X : Type 0} → (Error → Bool) → Span X → List (Result X Error) → Type 0
SpanHas stops s xs = (stops OutOfMemory ≡ true) × (xs ≡ ok_results (rest_in s))

-- One call at an end of a span yields the item there, or `OutOfMemory`, after which none remains.
-- It yields nothing once none remains.
abbrev pub SpanAnswer : {X : Type 0} → (List X → Option X × List X) → Span X →
    Option (Result X Error) → Span X → Type 0
SpanAnswer end s None t = (rest_in s ≡ []) × (rest_in t ≡ [])
SpanAnswer end s (Some (Ok x)) t =
    ((end (rest_in s)).0 ≡ Some x) × (rest_in t ≡ (end (rest_in s)).1)
SpanAnswer end s (Some (Err e)) t = (e ≡ OutOfMemory) × (rest_in s ≡ [] → ⊥) × (rest_in t ≡ [])

-- One call at an end of a span, which keeps its list.
pub record SpanGives {X : Type 0} (end : List X → Option X × List X) (s : Span X)
    (r : Option (Result X Error)) (t : Span X) : Type 0 where
  pub answer : SpanAnswer end s r t
  pub list : t.list ≡ s.list

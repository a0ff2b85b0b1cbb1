-- The part of a span that remains after a seek.
use Rattle.std.specs.Prelude.{◌≡◌, ℕ, Bool, true, List, length, min, max, not, Option, Some, None}
use Rattle.std.specs.Prelude.{Result}
use Rattle.std.specs.List.Sorted.{IsPartitionedBy}
use Rattle.std.specs.declared.ops.Bound.{Bound}
use Rattle.std.specs.declared.ops.Bound.TheVariants.{Unbounded}
use Rattle.sst_entries.specs.Stream.{EndsAtError, YieldsExactly, ok_results, answer_stops}
use Rattle.sst_blocks.specs.Handle.{Handle}
use Rattle.sst_blocks.specs.Handles.{reaches, is_above, window}
use Rattle.sst_entries.specs.declared.error.Error.{Error}
use Rattle.sst_entries.specs.declared.error.Error.TheVariants.{OutOfMemory}
use Rattle.sst_entries.specs.Entry.{Entry}
use Rattle.sst_entries.specs.Point.{within}
use Rattle.sst_entries.specs.Span.{Span, rest_in, front_length}

-- a whole list; a span without the items before an index; a span without those from an index on
abbrev pub whole_span : {X : Type 0} → List X → Span X
whole_span xs = record { list = xs; from = 0; to = length xs }

abbrev pub span_from : {X : Type 0} → ℕ → Span X → Span X
span_from n s = record s { from = max s.from n }

abbrev pub span_to : {X : Type 0} → ℕ → Span X → Span X
span_to n s = record s { to = min s.to n }

-- except for `OutOfMemory`, these items are yielded
abbrev pub YieldsItems : {S X : Type 0} (front back : S → Option (Result X Error) → S → Type 0)
    → List X → S → Type 0
YieldsItems front back xs s = (stops : Error → Bool) → stops OutOfMemory ≡ true →
    YieldsExactly (answer_stops stops) front back s (ok_results xs)

-- a number counts the items at the front that pass a test, if no item passes after one that fails
abbrev pub CountsFront : {X : Type 0} → List X → (X → Bool) → ℕ → Type 0
CountsFront xs passes n = IsPartitionedBy passes xs → n ≡ front_length passes xs

-- a span yields its remaining items, except for `OutOfMemory`, and is exhausted after an error
pub record YieldsLeft {X : Type 0} (front back : Span X → Option (Result X Error) → Span X → Type 0)
    (s : Span X) : Type 0 where
  pub yields : (stops : Error → Bool) → stops OutOfMemory ≡ true
      → YieldsExactly (answer_stops stops) front back s (ok_results (rest_in s))
  pub ends : EndsAtError front back s

-- of the entries within an upper bound, those within both bounds remain; and the same for a lower
-- bound
abbrev pub KeepsUpper : Bound (List ℕ) → Span Entry → Span Entry → Type 0
KeepsUpper low old new =
    (high : Bound (List ℕ)) (es : List Entry)
    → rest_in old ≡ within Unbounded high es → rest_in new ≡ within low high es

abbrev pub KeepsLower : Bound (List ℕ) → Span Entry → Span Entry → Type 0
KeepsLower high old new =
    (low : Bound (List ℕ)) (es : List Entry)
    → rest_in old ≡ within low Unbounded es → rest_in new ≡ within low high es

-- the number of handles before the first that reaches an edge, and before the first that ends above
-- a key
abbrev pub reaching_place : List ℕ × ℕ → List Handle → ℕ
reaching_place edge hs = front_length (λ h. not (reaches edge.0 edge.1 h)) hs

abbrev pub above_place : List ℕ → List Handle → ℕ
above_place key hs = front_length (λ h. not (is_above key h)) hs

-- of a window up to an edge, the window between both edges remains; and the same from an edge on
abbrev pub KeepsUpperEdge : List ℕ × ℕ → Span Handle → Span Handle → Type 0
KeepsUpperEdge edge old new =
    (key : Option (List ℕ)) (hs : List Handle)
    → rest_in old ≡ window hs None key → rest_in new ≡ window hs (Some edge) key

abbrev pub KeepsLowerEdge : List ℕ → Span Handle → Span Handle → Type 0
KeepsLowerEdge key old new =
    (edge : Option (List ℕ × ℕ))
    → rest_in old ≡ window old.list edge None → rest_in new ≡ window old.list edge (Some key)

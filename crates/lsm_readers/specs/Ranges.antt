-- The entries of a table within bounds.
use Rattle.std.specs.Prelude.{◌≡◌, ℕ, ◌≤◌, Bool, true, false, List, [], length, Option, None}
use Rattle.std.specs.Prelude.{IfOk, Result}
use Rattle.std.specs.declared.ops.Bound.{Bound}
use Rattle.sst_blocks.specs.Sections.{body_of}
use Rattle.sst_entries.specs.declared.error.Error.{Error}
use Rattle.sst_entries.specs.declared.error.Error.TheVariants.{OutOfMemory}
use Rattle.sst_entries.specs.declared.stream.Direction.{Direction}
use Rattle.sst_entries.specs.Entry.{Entry}
use Rattle.sst_entries.specs.Point.{within}
use Rattle.sst_entries.specs.Stream.{YieldsExactly, Runs, answer_stops, ok_results}
use Rattle.sst_blocks.specs.declared.opened.Opened.{Opened}
use Rattle.sst_blocks.specs.Handles.{window}
use Rattle.sst_blocks.specs.Opened.{none_opened}
use Rattle.lsm_iters.specs.block_index.Left.{IsBetween}
use Rattle.lsm_iters.specs.block_index.Yielded.{YieldsEnding}
use Rattle.lsm_iters.specs.Bounds.{lower_edge, upper_edge}
use Rattle.lsm_iters.specs.Lift.{lift}
use Rattle.lsm_iters.specs.Range.{Range, left_in, opened_in}
use Rattle.lsm_iters.specs.Rows.{Bounded, rows}
use Rattle.lsm_readers.specs.BlockIndexes.{table_index}
use Rattle.lsm_readers.specs.Stored.{StoresList}
use Rattle.lsm_readers.specs.point.Table.{OpenTable}

-- A table's bytes before the trailer, its global seqno, and two bounds.
abbrev pub bounded : OpenTable → Bound (List ℕ) → Bound (List ℕ) → Bounded
bounded t low high = record {
  body = body_of t.bytes;
  global_seqno = t.global_seqno;
  low = low;
  high = high;
}

-- The entries within the bounds, global seqno applied, of the blocks between the bounds' edges. A
-- block that cannot be loaded contributes its error.
abbrev pub range_results : OpenTable → Bound (List ℕ) → Bound (List ℕ) → List (Result Entry Error)
range_results t low high =
    rows (bounded t low high) ((table_index t).returned (lower_edge low) (upper_edge high))

-- A range iterator before its first step: nothing was sought or loaded.
pub record IsRangeOf {A : Type 0} (t : OpenTable) (low high : Bound (List ℕ)) (s : Range A)
    : Type 0 where
  pub of : s.of ≡ bounded t low high
  pub index : (left_in s.handles).index ≡ table_index t
  pub whole : IsBetween (left_in s.handles) None None
  pub unsought : s.handles.sought ≡ false
  pub front : s.front ≡ []
  pub back : s.back ≡ []
  pub opened : opened_in s ≡ none_opened
  pub lent : s.lent ≡ None

-- If its reader stops at `OutOfMemory`, it yields a list's entries within the bounds at any ends,
-- global seqno applied.
abbrev pub YieldsWithin : {S : Type 0} (front back : S → Option (Result Entry Error) → S → Type 0)
    → Bound (List ℕ) → Bound (List ℕ) → List Entry → ℕ → S → Type 0
YieldsWithin front back low high es g s =
    (stops : Error → Bool) → stops OutOfMemory ≡ true →
    YieldsExactly (answer_stops stops) front back s (ok_results (within low high (lift es g)))

-- If its reader stops at `OutOfMemory`, it yields all entries of a list, global seqno applied.
abbrev pub YieldsAll : {S : Type 0} (front back : S → Option (Result Entry Error) → S → Type 0)
    → List Entry → ℕ → S → Type 0
YieldsAll front back es g s =
    (stops : Error → Bool) → stops OutOfMemory ≡ true →
    YieldsExactly (answer_stops stops) front back s (ok_results (lift es g))

-- A call returned an iterator over a table that yields the entries within the bounds from both ends,
-- up to the first error.
abbrev pub RangeYields : {S : Type 0} (front back : S → Option (Result Entry Error) → S → Type 0)
    → OpenTable → Bound (List ℕ) → Bound (List ℕ) → Result S Error → Type 0
RangeYields front back t low high r = IfOk r (λ s.
    YieldsEnding front back (λ _. Unit {0}) (λ _. Unit {0}) s (range_results t low high))

-- If the bytes store a list, it yields the list's entries within the bounds.
abbrev pub RangeYieldsList : {S : Type 0}
    (front back : S → Option (Result Entry Error) → S → Type 0)
    → OpenTable → Bound (List ℕ) → Bound (List ℕ) → Result S Error → Type 0
RangeYieldsList front back t low high r =
    (es : List Entry) → StoresList t.bytes es →
    IfOk r (YieldsWithin front back low high es t.global_seqno)

-- If the bytes store a list, it yields the list.
abbrev pub RangeYieldsAll : {S : Type 0}
    (front back : S → Option (Result Entry Error) → S → Type 0) → OpenTable → Result S Error
    → Type 0
RangeYieldsAll front back t r =
    (es : List Entry) → StoresList t.bytes es → IfOk r (YieldsAll front back es t.global_seqno)

-- At most this many data blocks and index blocks were loaded, and no others.
pub record AreFew (blocks index : ℕ) (o : Opened) : Type 0 where
  pub data_few : o.data_loads ≤ blocks
  pub index_few : o.index_loads ≤ index
  pub no_filter : o.filter_loads ≡ 0
  pub no_meta : o.meta_loads ≡ 0

-- This bound on loads holds after any sequence of calls.
abbrev pub LoadsAtMost : {A : Type 0}
    (front back : Range A → Option (Result Entry Error) → Range A → Type 0)
    → ℕ → ℕ → Range A → Type 0
LoadsAtMost {A} front back blocks index s =
    (ends : List Direction) (rs : List (Option (Result Entry Error))) (t : Range A) →
    Runs front back s ends rs t → AreFew blocks index (opened_in t)

-- The number of data blocks that two bounds need. These run from the first that may hold the lower
-- bound's key to the first that ends above the upper bound's.
abbrev pub blocks_within : {bytes : List ℕ} {es : List Entry} → StoresList bytes es
    → Bound (List ℕ) → Bound (List ℕ) → ℕ
blocks_within t low high = length (window t.handles (lower_edge low) (upper_edge high))

-- The number of index blocks they need: none if the index is pinned, one on demand, or the
-- partitions between the edges.
abbrev pub index_within : OpenTable → Bound (List ℕ) → Bound (List ℕ) → ℕ
index_within t low high = (table_index t).loads (lower_edge low) (upper_edge high)

-- If the bytes store a list, a call returned an iterator that loads at most the data blocks and index
-- blocks that the bounds need.
abbrev pub RangeLoadsFew : {A : Type 0}
    (front back : Range A → Option (Result Entry Error) → Range A → Type 0)
    → OpenTable → Bound (List ℕ) → Bound (List ℕ) → Result (Range A) Error → Type 0
RangeLoadsFew front back t low high r =
    (es : List Entry) (d : StoresList t.bytes es) →
    IfOk r (LoadsAtMost front back (blocks_within d low high) (index_within t low high))

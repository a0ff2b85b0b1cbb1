-- The tables of a run, each with the bounds within which it is read.
use Rattle.std.specs.Prelude.{ℕ, suc, ◌+◌, ◌-◌, ◌==◌, ◌||◌, Bool, List, [], ◌∷◌, drop, length}
use Rattle.std.specs.Prelude.{map, take, Option, unwrap_or, Result, if◌then◌else◌}
use Rattle.std.specs.declared.ops.Bound.{Bound}
use Rattle.std.specs.declared.ops.Bound.TheVariants.{Unbounded}
use Rattle.sst_entries.specs.declared.error.Error.{Error}
use Rattle.sst_entries.specs.Entry.{Entry}
use Rattle.lsm_sorted.specs.version.KeyRange.{Interval}
use Rattle.lsm_iters.specs.Bounds.{lower_edge, upper_edge}
use Rattle.lsm_iters.specs.Range.{Range}
use Rattle.lsm_readers.specs.BlockIndexes.{table_index}
use Rattle.lsm_readers.specs.point.Parts.{key_range_result}
use Rattle.lsm_readers.specs.Ranges.{IsRangeOf, index_within, range_results}
use Rattle.lsm_readers.specs.point.Table.{OpenTable}

-- a table, and the bounds within which it is read
pub record Part : Type 0 where
  pub table : OpenTable
  pub low : Bound (List ℕ)
  pub high : Bound (List ℕ)

-- a reader of it before any call
abbrev pub IsPartReader : {A : Type 0} → Part → Range A → Type 0
IsPartReader p reader = IsRangeOf p.table p.low p.high reader

-- the results that a reader of it yields
abbrev pub part_read_results : Part → List (Result Entry Error)
part_read_results p = range_results p.table p.low p.high

-- the number of handles of data blocks that its index has between the bounds' edges
abbrev pub handles_within : Part → ℕ
handles_within p = length ((table_index p.table).returned (lower_edge p.low) (upper_edge p.high))

-- a bound on the loads of its reader: of data blocks and of its index, the search for the edges
-- included
abbrev pub part_loads : Part → ℕ
part_loads p = handles_within p + index_within p.table p.low p.high + 1

-- the first and the last index of some tables of a run, and the two bounds within which they are
-- read
pub record RunSpan : Type 0 where
  pub first : ℕ
  pub last : ℕ
  pub low : Bound (List ℕ)
  pub high : Bound (List ℕ)

abbrev pub span_of : ℕ × ℕ → Bound (List ℕ) → Bound (List ℕ) → RunSpan
span_of ends low high = record { first = ends.0; last = ends.1; low = low; high = high }

-- whether the span begins or ends at an index: the table there is read within the bounds, any other
-- whole
abbrev pub is_edge : RunSpan → ℕ → Bool
is_edge s place = (place == s.first) || (place == s.last)

abbrev pub span_part_at : RunSpan → ℕ → OpenTable → Part
span_part_at s place t =
    if is_edge s place then record { table = t; low = s.low; high = s.high }
    else record { table = t; low = Unbounded; high = Unbounded }

-- the same of each table, from an index on
abbrev pub span_parts_from : RunSpan → ℕ → List OpenTable → List Part
span_parts_from s place [] = []
span_parts_from s place (t ∷ ts) = span_part_at s place t ∷ span_parts_from s (suc place) ts

-- those of a run from the index lo up to hi, exclusive
abbrev pub span_parts_between : RunSpan → List OpenTable → ℕ → ℕ → List Part
span_parts_between s tables lo hi = take (hi - lo) (drop lo (span_parts_from s 0 tables))

-- those of the whole span
abbrev pub span_parts : RunSpan → List OpenTable → List Part
span_parts s tables = span_parts_between s tables s.first (suc s.last)

-- the first and the last index, by default those of the whole run
abbrev pub ends_given : List OpenTable → Option ℕ × Option ℕ → ℕ × ℕ
ends_given tables places = (unwrap_or places.0 0, unwrap_or places.1 (length tables - 1))

-- the tables' key ranges
abbrev pub range_of : OpenTable → Interval
range_of t = key_range_result t.bytes

abbrev pub ranges_of : List OpenTable → List Interval
ranges_of tables = map range_of tables

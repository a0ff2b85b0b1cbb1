-- Runs: lists of tables, and the results of searching one in ascending order.
use Rattle.std.specs.Prelude.{◌≡◌, ℕ, ◌+◌, ◌-◌, ◌<◌, ◌≤◌, Bool, true, not, ◌&&◌, ◌==◌}
use Rattle.std.specs.Prelude.{if◌then◌else◌, List, [], ◌∷◌, drop, find, length, filter, map, take}
use Rattle.std.specs.Prelude.{IsTrue, Option, Some, None}
use Rattle.std.specs.Option.{option_map_or}
use Rattle.std.specs.declared.ops.Bound.{Bound}
use Rattle.std.specs.declared.cmp.Ordering.{Ordering}
use Rattle.std.specs.List.{list_all}
use Rattle.std.specs.List.Sorted.{IsSortedByKey, IsStableByKey}
use Rattle.std.specs.Cmp.Lexicographic.{slice_cmp}
use Rattle.std.specs.Ordering.{nat_cmp}
use Rattle.sst_entries.specs.Key.{key_lt}
use Rattle.lsm_sorted.specs.version.KeyRange.{Interval, interval, has_key, has_range, key_le}
use Rattle.lsm_sorted.specs.version.KeyRange.{overlaps}
use Rattle.lsm_sorted.specs.version.KeyRange.{is_well_formed}
use Rattle.sst_entries.specs.Point.{is_from, is_to}

-- the order of intervals by their least keys
abbrev pub min_cmp : Interval → Interval → Ordering
min_cmp a b = slice_cmp nat_cmp a.min b.min

-- no table starts before the preceding one
abbrev pub IsSortedByMin : {T : Type 0} → (T → Interval) → List T → Type 0
IsSortedByMin range tables = IsSortedByKey range min_cmp tables

-- tables with the same least key keep their order
abbrev pub IsStableByMin : {T : Type 0} → (T → Interval) → List T → List T → Type 0
IsStableByMin range old new = IsStableByKey range min_cmp old new

-- each interval is well-formed and ends before each later one starts
abbrev pub are_in_order : List Interval → Bool
are_in_order [] = true
are_in_order (r ∷ rs) =
    is_well_formed r && list_all (λ later. key_lt r.max later.min) rs && are_in_order rs

-- the tables' intervals are in order
abbrev pub IsInOrder : {T : Type 0} → (T → Interval) → List T → Type 0
IsInOrder range tables = IsTrue (are_in_order (map range tables))

-- the first table whose interval contains a key
abbrev pub table_of_key : {T : Type 0} → (T → Interval) → List ℕ → List T → Option T
table_of_key range key tables = find (λ t. has_key (range t) key) tables

-- the tables whose intervals overlap an interval, and those contained in it
abbrev pub tables_across : {T : Type 0} → (T → Interval) → Interval → List T → List T
tables_across range r tables = filter (λ t. overlaps (range t) r) tables

abbrev pub tables_inside : {T : Type 0} → (T → Interval) → Interval → List T → List T
tables_inside range r tables = filter (λ t. has_range r (range t)) tables

-- an interval is well-formed and starts above a last key, if any
abbrev pub may_come_next : Option (List ℕ) → Interval → Bool
may_come_next last r = is_well_formed r && option_map_or (λ k. key_lt k r.min) last true

-- whether an interval ends before a lower bound
abbrev pub ends_before : Bound (List ℕ) → Interval → Bool
ends_before lower r = not (is_from lower r.max)

-- whether an interval starts within an upper bound
abbrev pub starts_within : Bound (List ℕ) → Interval → Bool
starts_within upper r = is_to upper r.min

-- whether an interval starts before a key, and whether it ends no later than one
abbrev pub starts_before : List ℕ → Interval → Bool
starts_before key r = key_lt r.min key

abbrev pub ends_within : List ℕ → Interval → Bool
ends_within key r = key_le r.max key

-- the number of intervals in a list that pass a test
abbrev pub how_many : (Interval → Bool) → List Interval → ℕ
how_many p rs = length (filter p rs)

-- the first and last of `count` indexes from `low` on, if any
abbrev pub first_and_last : ℕ → ℕ → Option (ℕ × ℕ)
first_and_last low count = if count == 0 then None else Some (low, low + count - 1)

-- the first index whose interval does not end before the lower bound, and the last index from there
-- whose interval starts within the upper bound
abbrev pub overlap_indexes : Bound (List ℕ) → Bound (List ℕ) → List Interval → Option (ℕ × ℕ)
overlap_indexes lower upper rs =
    let low = how_many (ends_before lower) rs in
    first_and_last low (how_many (starts_within upper) (drop low rs))

-- a first and a last index of a list, in this order
abbrev pub ArePlacesOf : {T : Type 0} → List T → ℕ × ℕ → Type 0
ArePlacesOf tables ends = (ends.0 ≤ ends.1) × (ends.1 < length tables)

-- a contiguous sublist of tables
abbrev pub IsPartOf : {T : Type 0} → List T → List T → Type 0
IsPartOf tables part =
    (low count : ℕ) × (low + count ≤ length tables) × (part ≡ take count (drop low tables))

-- the greatest key of the last interval
abbrev pub last_max : Interval → List Interval → List ℕ
last_max r [] = r.max
last_max r (next ∷ rs) = last_max next rs

-- from the first interval's least key to the last one's greatest
abbrev pub first_to_last : List Interval → Option Interval
first_to_last [] = None
first_to_last (r ∷ rs) = Some (interval r.min (last_max r rs))

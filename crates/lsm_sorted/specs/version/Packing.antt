-- Packing tables into the fewest runs while each key keeps the order of its tables.
use Rattle.std.specs.Prelude.{◌≡◌, ◌≢◌, ℕ, zero, suc, ◌<◌, ◌≤◌, ◌==◌, max, Bool, true, List, []}
use Rattle.std.specs.Prelude.{◌∷◌, ◌++◌, length, map, filter, flat_map, slice_get, if◌then◌else◌}
use Rattle.std.specs.Prelude.{◌||◌, Contains, Option, Some, None, IsPermutation}
use Rattle.std.specs.List.{AllByRecursion, list_any, insert}
use Rattle.lsm_sorted.specs.version.KeyRange.{Interval, has_key, key_le, overlaps, is_well_formed}
use Rattle.lsm_sorted.specs.version.KeyRange.{are_disjoint}
use Rattle.lsm_sorted.specs.version.Run.{how_many, are_in_order}

-- the tables of runs, in run order
abbrev pub tables_in : {T : Type 0} → List (List T) → List T
tables_in runs = flat_map (λ run. run) runs

-- the table at an index of a run
abbrev pub table_at : {T : Type 0} → List (List T) → ℕ → ℕ → Option T
table_at [] i j = None
table_at (run ∷ runs) zero j = slice_get run j
table_at (run ∷ runs) (suc i) j = table_at runs i j

-- the runs have the same tables, with multiplicity
abbrev pub SameTables : {T : Type 0} → List (List T) → List (List T) → Type 0
SameTables runs packed = IsPermutation (tables_in runs) (tables_in packed)

-- the runs have the tables of others, and some more
abbrev pub AddsTables : {T : Type 0} → List (List T) → List T → List (List T) → Type 0
AddsTables runs tables packed = IsPermutation (tables_in runs ++ tables) (tables_in packed)

module _ {T : Type 0} (range : T → Interval) where
  -- the tables, in run order, whose range contains a key
  abbrev pub holders : List (List T) → List ℕ → List T
  holders runs k = filter (λ t. has_key (range t) k) (tables_in runs)

  -- each table's range is well-formed
  abbrev pub AreTablesWellFormed : List T → Type 0
  AreTablesWellFormed tables = AllByRecursion (λ t. is_well_formed (range t) ≡ true) tables

  -- the ranges of all tables of some runs are well-formed
  abbrev pub AreWellFormed : List (List T) → Type 0
  AreWellFormed runs = AreTablesWellFormed (tables_in runs)

  -- for each key, the tables whose range contains it keep their order
  abbrev pub SameHolders : List (List T) → List (List T) → Type 0
  SameHolders runs packed = (k : List ℕ) → holders packed k ≡ holders runs k

  -- each run is in order and not empty
  abbrev pub ArePacked : List (List T) → Type 0
  ArePacked runs = AllByRecursion (λ run. (are_in_order (map range run) ≡ true) × (run ≢ [])) runs

  -- each run is not empty, its ranges are disjoint, and all ranges are well-formed
  pub record AreDisjointRuns (runs : List (List T)) : Type 0 where
    pub some : AllByRecursion (λ run. run ≢ []) runs
    pub apart : AllByRecursion (λ run. are_disjoint (map range run) ≡ true) runs
    pub formed : AreWellFormed runs

  -- a number for each table, by run and index: of two overlapping tables the one in the earlier run
  -- has the smaller number
  pub record IsPlacement (runs : List (List T)) (number : ℕ → ℕ → ℕ) : Type 0 where
    pub keeps : (i j i' j' : ℕ) (t t' : T) → i < i' →
        table_at runs i j ≡ Some t → table_at runs i' j' ≡ Some t' →
        overlaps (range t) (range t') ≡ true → number i j < number i' j'

  -- n is the least count of numbers in a placement: no placement uses fewer, and one uses only
  -- numbers below n
  pub record IsLeastSize (runs : List (List T)) (n : ℕ) : Type 0 where
    pub at_least : (number : ℕ → ℕ → ℕ) (numbers : List ℕ) → IsPlacement runs number →
        ((i j : ℕ) (t : T) → table_at runs i j ≡ Some t → Contains numbers (number i j)) →
        n ≤ length numbers
    pub reached : (number : ℕ → ℕ → ℕ) × IsPlacement runs number ×
        ((i j : ℕ) (t : T) → table_at runs i j ≡ Some t → number i j < n)

  -- there are tables at two positions, the second in a later run, and they overlap
  pub record AreLinked (runs : List (List T)) (p q : ℕ × ℕ) : Type 0 where
    pub first : T
    pub second : T
    pub first_at : table_at runs p.0 p.1 ≡ Some first
    pub second_at : table_at runs q.0 q.1 ≡ Some second
    pub later : p.0 < q.0
    pub overlap : overlaps (range first) (range second) ≡ true

  -- positions of tables, where each table overlaps the next, which is in a later run
  abbrev pub IsChain : List (List T) → List (ℕ × ℕ) → Type 0
  IsChain runs [] = Unit {0}
  IsChain runs (p ∷ []) = (t : T) × (table_at runs p.0 p.1 ≡ Some t)
  IsChain runs (p ∷ q ∷ ps) = AreLinked runs p q × IsChain runs (q ∷ ps)

  -- whether an interval overlaps a table of a run
  abbrev pub touches : Interval → List T → Bool
  touches r run = list_any (λ t. overlaps (range t) r) run

  -- a run with one more table, inserted after those that start no later
  abbrev pub with_table : T → List T → List T
  with_table t run = insert run (how_many (λ r. key_le r.min (range t).min) (map range run)) t

  -- runs with one more table: in the first run such that neither it nor a later one overlaps the
  -- table, or in a new run
  abbrev pub put : T → List (List T) → List (List T)
  put t [] = (t ∷ []) ∷ []
  put t (run ∷ runs) =
      if touches (range t) run || list_any (touches (range t)) runs
      then run ∷ put t runs
      else with_table t run ∷ runs

  -- runs with more tables, added one after another
  abbrev pub put_all : List T → List (List T) → List (List T)
  put_all [] runs = runs
  put_all (t ∷ ts) runs = put_all ts (put t runs)

  -- each run is in order
  abbrev pub AreInOrder : List (List T) → Type 0
  AreInOrder runs = AllByRecursion (λ run. are_in_order (map range run) ≡ true) runs

-- each run is not empty
abbrev pub AreNotEmpty : {T : Type 0} → List (List T) → Type 0
AreNotEmpty runs = AllByRecursion (λ run. run ≢ []) runs

-- the number of elements up to and including the last that passes
abbrev pub count_to_last : {X : Type 0} → (X → Bool) → List X → ℕ
count_to_last p [] = 0
count_to_last p (x ∷ xs) = if p x || list_any p xs then suc (count_to_last p xs) else 0

-- ---- the rule that assigns tables to new runs, in their order

-- the least number above all of these: 0 if there are none
abbrev pub least_above : List ℕ → ℕ
least_above [] = 0
least_above (n ∷ ns) = max (suc n) (least_above ns)

-- a table with the number of its new run
pub record NumberedTable (T : Type 0) : Type 0 where
  pub table : T
  pub number : ℕ

-- the run numbers of tables
abbrev pub numbers_of : {T : Type 0} → List (NumberedTable T) → List ℕ
numbers_of xs = map (λ x. x.number) xs

-- the tables with a run number
abbrev pub tables_of_number : {T : Type 0} → List (NumberedTable T) → ℕ → List T
tables_of_number xs n = map (λ x. x.table) (filter (λ x. x.number == n) xs)

module _ {T : Type 0} (range : T → Interval) where
  -- a table's number: one more than the greatest of the earlier tables that overlap it, or 0
  abbrev pub number_behind : List (NumberedTable T) → T → ℕ
  number_behind earlier t =
      least_above (numbers_of (filter (λ x. overlaps (range x.table) (range t)) earlier))

  -- tables with their numbers, the latest first, added before the earlier ones
  abbrev pub numbering_after : List (NumberedTable T) → List T → List (NumberedTable T)
  numbering_after earlier [] = earlier
  numbering_after earlier (t ∷ ts) =
      numbering_after (record { table = t; number = number_behind earlier t } ∷ earlier) ts

  -- tables with their numbers, the latest first
  abbrev pub numbering : List T → List (NumberedTable T)
  numbering ts = numbering_after [] ts

  -- new runs: the run of each number has exactly the tables with that number
  pub record AreGrouped (xs : List (NumberedTable T)) (packed : List (List T)) : Type 0 where
    pub count : length packed ≡ least_above (numbers_of xs)
    pub members : (n : ℕ) (run : List T) → slice_get packed n ≡ Some run →
        IsPermutation (tables_of_number xs n) run

  -- new runs of tables, each table in the run after the last one that overlaps it, or in the first
  abbrev pub ArePlaced : List T → List (List T) → Type 0
  ArePlaced ts packed = AreGrouped (numbering ts) packed

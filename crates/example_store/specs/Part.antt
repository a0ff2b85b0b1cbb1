-- A part of a store's runs that is compacted.
use Rattle.std.specs.Prelude.{◌≡◌, ℕ, List, ◌++◌, drop, false, length, sum_by, take}
use Rattle.lsm_tables.specs.Words.{Entry, OpenTable, ids_behind, kept_in, rules_by}
use Rattle.example_store.specs.Ids.{AreMadeOf}
use Rattle.example_store.specs.Story.{Holding}

-- the runs from one index up to another, exclusive, and the runs before these
abbrev pub part_runs : ℕ → ℕ → List (List OpenTable) → List (List OpenTable)
part_runs from to runs = drop from (take to runs)

abbrev pub front_runs : ℕ → ℕ → List (List OpenTable) → List (List OpenTable)
front_runs from to runs = take from (take to runs)

-- a part is replaced by what is kept of its lists, in one run at most, and the counter of ids is
-- after its tables
pub record IsPartKept (from to watermark : ℕ) (lists : List (List (List Entry)))
    (old new : Holding) : Type 0 where
  pub made : List (List OpenTable)
  pub written : AreMadeOf old (kept_in (rules_by watermark false false) lists) made
  pub placed : new.runs ≡ front_runs from to old.runs ++ (made ++ drop to old.runs)
  pub counter : new.ids ≡ ids_behind old.ids old.target (sum_by length made)

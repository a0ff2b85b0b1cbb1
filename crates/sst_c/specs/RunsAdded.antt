-- Adding a table to a list of runs as reported to C.
use Rattle.std.specs.Prelude.{◌≡◌, ◌⊎◌, ℕ, true, false, [], ◌∷◌, ◌++◌}
use Rattle.lsm_sorted.specs.version.KeyRange.{is_well_formed}
use Rattle.lsm_readers.specs.point.Table.{OpenTable}
use Rattle.lsm_runs.specs.Words.{range_of}
use Rattle.sst_c.specs.What.{are_runs, is_table, runs_held}
use Rattle.sst_c.specs.declared.held.What.{What}
use Rattle.sst_c.specs.declared.held.What.TheVariants.{Table}

-- adding the object `table` at the end of a list of runs leads from the object w to v. The code is 102
-- if one of the objects is of another kind, and 104 if the table's range is not well-formed
pub record AddsToRuns (table w : What) (code : ℕ) (v : What) : Type 0 where
  pub other : is_table table ≡ false → (code ≡ 102) × (v ≡ w)
  pub no_runs : are_runs w ≡ false → (code ≡ 102) × (v ≡ w)
  pub turned : (t : OpenTable) → table ≡ Table t → are_runs w ≡ true
      → is_well_formed (range_of t) ≡ false → code ≡ 104
  pub memory : (t : OpenTable) → table ≡ Table t → are_runs w ≡ true
      → is_well_formed (range_of t) ≡ true → (code ≡ 0) ⊎ (code ≡ 1)
  pub added : (t : OpenTable) → table ≡ Table t → code ≡ 0
      → runs_held v ≡ runs_held w ++ (t ∷ []) ∷ []

-- Lists of numbers as the parts of a walk.
use Rattle.std.specs.Prelude.{ℕ, [], ◌∷◌, map, None, Some, Result, Ok, Err}
use Rattle.std.specs.List.{sum_by}
use Rattle.sst_entries.specs.declared.error.Error.{Error}
use Rattle.sst_entries.specs.Stream.{ok_results}
use Rattle.lsm_iters.specs.walk.Ends.{Remains}
use Rattle.lsm_iters.specs.walk.Parts.{Coming, Loading}
use Rattle.test_layers.specs.declared.rows.Row.{Row}
use Rattle.test_layers.specs.declared.rows.Rows.{Rows}

-- the numbers that are left, and the loads of their own
abbrev pub row_remains : Row → Remains ℕ
row_remains row = record { results = ok_results row.numbers; loads = row.loads }

-- those of a row that is to come
abbrev pub loads_named : Result Row Error → ℕ
loads_named (Ok row) = row.loads
loads_named (Err e) = 0

-- a row that is to come, or its error, which is found without any memory
abbrev pub row_named : Result Row Error → Result (Loading ℕ) Error
row_named (Ok row) = Ok (record { results = ok_results row.numbers; early = None })
row_named (Err e) = Ok (record { results = Err e ∷ []; early = Some e })

abbrev pub coming_rows : Rows → Coming ℕ
coming_rows rows = record { parts = map row_named rows.rows; loads = sum_by loads_named rows.rows }

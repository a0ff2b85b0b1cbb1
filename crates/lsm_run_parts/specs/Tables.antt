-- The unopened tables of a run, as the parts of an iteration.
use Rattle.std.specs.Prelude.{◌≡◌, ℕ, suc, ◌+◌, ◌-◌, List, [], ◌∷◌, map, Option, Some, None}
use Rattle.std.specs.Prelude.{Result, Ok, Err}
use Rattle.std.specs.List.{flat_map, sum_by}
use Rattle.sst_entries.specs.declared.error.Error.{Error}
use Rattle.sst_entries.specs.declared.stream.Direction.{Direction}
use Rattle.sst_entries.specs.declared.stream.Direction.TheVariants.{Front, Back}
use Rattle.sst_entries.specs.Entry.{Entry}
use Rattle.lsm_iters.specs.walk.Parts.{Coming, Loading, loads_in}
use Rattle.lsm_run_parts.specs.RunParts.{Part, part_loads, part_read_results}

-- the unopened tables, and the number of those opened
pub record Unopened : Type 0 where
  pub parts : List Part
  pub opened : ℕ

-- the results of unopened tables, and a bound on the loads of their readers
abbrev pub run_parts_results : List Part → List (Result Entry Error)
run_parts_results ps = flat_map part_read_results ps

abbrev pub parts_loads : List Part → ℕ
parts_loads ps = sum_by part_loads ps

-- the index at an end of the range from lo to hi, exclusive, and the range that is left
abbrev pub place_taken : Direction → ℕ → ℕ → ℕ × ℕ × ℕ
place_taken Front lo hi = (lo, suc lo, hi)
place_taken Back lo hi = (hi - 1, lo, hi - 1)

-- an unopened table; opening it does not read its bytes
abbrev pub table_named : Part → Result (Loading Entry) Error
table_named p = Ok (record { results = part_read_results p; early = None })

-- the unopened tables, and a bound on the loads of their readers
abbrev pub coming_tables : Unopened → Coming Entry
coming_tables u = record { parts = map table_named u.parts; loads = parts_loads u.parts }

-- one load: a table that it opens is counted
abbrev pub KeepsTables : Unopened → Option (Result (Loading Entry) Error) → Unopened → Type 0
KeepsTables s named t = t.opened ≡ loads_in (named ∷ []) + s.opened

-- the number of tables that a load opened
abbrev pub opened_tables : {T : Type 0} → Option (Result T Error) → ℕ
opened_tables None = 0
opened_tables (Some (Ok reader)) = 1
opened_tables (Some (Err e)) = 0

-- no unopened table is left
abbrev pub none_unopened : Unopened → Unopened
none_unopened u = record u { parts = [] }

abbrev pub EndsTables : Unopened → Unopened → Type 0
EndsTables s t = t ≡ none_unopened s

-- All tables of a list of runs, packed. Assumes `Logic`.
use Rattle.std.proofs.Common.{◌≡◌, subst, List}
use Rattle.std.specs.Prelude.{IfOk, Result, Ok, Err}
use Rattle.sst_entries.specs.declared.error.Error.{Error}
use Rattle.lsm_sorted.specs.version.KeyRange.{Interval}
use Rattle.lsm_sorted.specs.version.Packing.{AreTablesWellFormed}
use Rattle.lsm_sorted.specs.version.Packed.{IsPackedOf}
use Rattle.lsm_sorted.specs.declared.version.packed.Packed.{Packed}

-- all tables are packed
pub packed_all : {T A : Type 0} (range : T → Interval) (r : Result (Packed T A) Error)
    (tables all : List T) → tables ≡ all → AreTablesWellFormed range all
    → IfOk r (λ p. AreTablesWellFormed range tables → IsPackedOf range tables p)
    → IfOk r (IsPackedOf range all)
packed_all {T} range (Ok p) tables all are formed packed =
    subst (λ (ts : List T). AreTablesWellFormed range ts → IsPackedOf range ts p) are packed formed
packed_all range (Err e) tables all are formed packed = tt

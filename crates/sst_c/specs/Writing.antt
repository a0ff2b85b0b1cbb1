-- Writing a table as C sees it.
use Rattle.std.specs.Prelude.{◌≡◌, ◌≢◌, ℕ, ◌==◌, ◌-◌, ◌⊎◌, true, false, List, [], ◌∷◌, ◌++◌}
use Rattle.std.specs.Prelude.{Option, None, Some, if◌then◌else◌}
use Rattle.std.specs.Global.{Global}
use Rattle.sst_entries.specs.Entry.{Entry}
use Rattle.sst_entries.specs.Error.{number_of}
use Rattle.sst_entries.specs.Kind.{kind_of}
use Rattle.sst_entries.specs.declared.error.Error.{Error}
use Rattle.sst_entries.specs.declared.value_type.ValueType.{ValueType}
use Rattle.lsm_writers.specs.declared.writer.FinishedTable.{FinishedTable}
use Rattle.sst_blocks.specs.table.Failed.{failed_fault}
use Rattle.lsm_writers.specs.Writing.{IsFinished, Writing, finish_fault, gained, write_fault}
use Rattle.lsm_writers.specs.Writing.{written}
use Rattle.sst_c.specs.Codes.{ReportsFirst, fault_code}
use Rattle.sst_c.specs.What.{are_files, files_held, writer_in}
use Rattle.sst_c.specs.declared.held.What.{What}

-- the value type of a kind as C passes it: one more than its tag
abbrev pub decode_kind : ℕ → Option ValueType
decode_kind kind = if kind == 0 then None else kind_of (kind - 1)

-- the code of the first fault, or 0. It is 1 if out of memory
unfoldable pub FaultReported : ℕ → Option Error → Type 0
FaultReported code fault = (code ≡ 1) ⊎ (code ≡ fault_code fault)

-- a fault is returned also when out of memory. Without one, the code is 0, or 1 if out of memory
unfoldable pub FaultAnswered : ℕ → Option Error → Type 0
FaultAnswered code None = (code ≡ 0) ⊎ (code ≡ 1)
FaultAnswered code (Some e) = code ≡ number_of e

-- a writer takes an entry, or returns an error and stays failed
unfoldable pub TookEntry : Writing → Entry → ℕ → Writing → Type 0
TookEntry w e code v =
    FaultAnswered code (write_fault w e) × (code ≡ 0 → v ≡ gained w e)
    × (code ≢ 0 → v ≡ record w { failed = true })

-- finishing returns the first fault, or 0, or 1 if out of memory. A failed writer returns its
-- failure, and an empty one 0, also when out of memory
unfoldable pub FinishReported : ℕ → Writing → Type 0
FinishReported code w =
    FaultReported code (finish_fault w) × ReportsFirst code (failed_fault w.failed)
    × (written w ≡ [] → w.failed ≡ false → code ≡ 0)

-- the finished table of the entries written is added at the end, or none if nothing was written
unfoldable pub AddsFileOf : Writing → List (FinishedTable Global) → List (FinishedTable Global)
    → Type 0
AddsFileOf w old new = ((written w ≡ []) × (new ≡ old)) ⊎ ((f : FinishedTable Global)
    × IsFinished w f.id f.checksum.0 f.bytes × (new ≡ old ++ f ∷ []))

-- finishing the held writer leads from the object a to b, which holds no writer
pub record Finishes (a : What) (code : ℕ) (b : What) : Type 0 where
  -- `OutOfMemory` replaces neither the error of a failed writer nor the success of an empty one
  pub returned : (w : Writing) → writer_in a ≡ Some w → FinishReported code w
  pub given : (w : Writing) → writer_in a ≡ Some w → writer_in b ≡ None
  pub kind : are_files b ≡ are_files a
  -- the table has all entries written
  pub finished : (w : Writing) → writer_in a ≡ Some w → code ≡ 0
      → AddsFileOf w (files_held a) (files_held b)
  pub refused : (w : Writing) → writer_in a ≡ Some w → code ≢ 0 → files_held b ≡ files_held a

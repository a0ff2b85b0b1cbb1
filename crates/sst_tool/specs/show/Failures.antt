-- The errors of showing tables.
use Rattle.std.specs.Prelude.{◌≡◌, ℕ, List, Option, None, false, true, if◌then◌else◌}
use Rattle.sst_entries.specs.Error.{is_memory}
use Rattle.sst_entries.specs.declared.error.Error.{Error}
use Rattle.lsm_sorted.specs.version.KeyRange.{has_key}
use Rattle.lsm_readers.specs.point.Answer.{table_answer}
use Rattle.lsm_readers.specs.Scan.{fault_of}
use Rattle.lsm_readers.specs.point.Table.{OpenTable}
use Rattle.lsm_run_parts.specs.RunParts.{range_of}
use Rattle.sst_tool.specs.declared.files.error.ToolError.{ToolError}
use Rattle.sst_tool.specs.declared.files.error.ToolError.TheVariants as error
use Rattle.sst_tool.specs.declared.show.named.NamedTable.{NamedTable}

-- The error names this file, with this error of its table.
abbrev pub NamesRefusal : {A : Type 0} → NamedTable A → Error → ToolError → Type 0
NamesRefusal f refusal (error.Unreadable name at e) = (name ≡ f.name) × (e ≡ refusal)
NamesRefusal f refusal e = ⊥

-- An error of the library gets the file's name; other errors and OutOfMemory stay.
abbrev pub BlamesFile : {A : Type 0} → NamedTable A → (failure returned : ToolError) → Type 0
BlamesFile f (error.Refused refusal) e = (is_memory refusal ≡ true → e ≡ error.Refused refusal)
    × (is_memory refusal ≡ false → NamesRefusal f refusal e)
BlamesFile f failure e = e ≡ failure

-- The error is OutOfMemory or one of the output, so it names no file.
abbrev pub NamesNone : ToolError → Type 0
NamesNone (error.Output e) = Unit {0}
NamesNone (error.Refused e) = is_memory e ≡ true
NamesNone e = ⊥

-- Except for OutOfMemory, an error of the library has this property; no file is named yet.
abbrev pub FailsAs : (Error → Type 0) → ToolError → Type 0
FailsAs IsReported (error.Unreadable name at e) = ⊥
FailsAs IsReported (error.Refused e) = is_memory e ≡ false → IsReported e
FailsAs IsReported e = Unit {0}

-- An error that names a file names this one, and its library error has this property.
abbrev pub NamesOnly : {A : Type 0} → NamedTable A → (Error → Type 0) → ToolError → Type 0
NamesOnly f IsReported (error.Unreadable name at e) = (name ≡ f.name) × IsReported e
NamesOnly f IsReported (error.Refused e) = is_memory e ≡ true
NamesOnly f IsReported e = Unit {0}

-- The error of a point read at a snapshot, if the table's range has the key and the read fails.
abbrev pub read_refusal : List ℕ → ℕ → OpenTable → Option Error
read_refusal key n t =
    if has_key (range_of t) key then fault_of (table_answer t key n).returned else None

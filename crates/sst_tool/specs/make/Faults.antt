-- The errors of lines.
use Rattle.std.specs.Prelude.{◌≡◌, ◌≢◌, ◌-◌, ◌^◌, ℕ, ◌+◌, ◌++◌, ◌∷◌, Bool, true, false, List}
use Rattle.std.specs.Prelude.{◌⊎◌, IfSome, None, Option, Some, length, map}
use Rattle.sst_entries.specs.Entry.{Entry}
use Rattle.sst_entries.specs.Strict.{last_of, may_follow}
use Rattle.sst_entries.specs.declared.error.Error.TheVariants.{OutOfMemory}
use Rattle.lsm_writers.specs.Tables.{TablesWriting, all_written, took_fault}
use Rattle.sst_tool.specs.declared.lines.entry_line.Format.{Format}
use Rattle.sst_tool.specs.declared.lines.entry_line.LineError.TheVariants as spelling
use Rattle.sst_tool.specs.declared.files.error.LineFault.{LineFault}
use Rattle.sst_tool.specs.declared.files.error.LineFault.TheVariants as fault
use Rattle.sst_tool.specs.declared.files.error.ToolError.{ToolError}
use Rattle.sst_tool.specs.declared.files.error.ToolError.TheVariants.{Input, Line, Refused}
use Rattle.sst_tool.specs.make.Entries.{LineSpells, Spell, SpellRows, input_lines}
use Rattle.sst_tool.specs.make.Sorting.{IsSortOf, is_row_before}
use Rattle.sst_tool.specs.make.Taken.{TookAll}

-- The error of an entry at this writer, with the entries sorted or in their order.
abbrev pub IsWrongEntry : Bool → TablesWriting → Entry → LineFault → Type 0
IsWrongEntry sorted w e fault.TooHigh = e.seqno ≡ 2 ^ 64 - 1
IsWrongEntry sorted w e fault.OutOfOrder =
    (sorted ≡ false) × (may_follow (last_of None (all_written w)) e ≡ false)
IsWrongEntry sorted w e fault.Repeated =
    (sorted ≡ true) × (may_follow (last_of None (all_written w)) e ≡ false)
IsWrongEntry sorted w e (fault.Refused error) =
    (took_fault w e ≡ Some error) × (error ≢ OutOfMemory)
IsWrongEntry sorted w e (fault.Spelling error) = ⊥

-- The error names the entry's line and what is wrong with it, or is OutOfMemory.
abbrev pub TellsEntry : ℕ → Bool → TablesWriting → Entry → ToolError → Type 0
TellsEntry number sorted w e (Line n wrong) = (n ≡ number) × IsWrongEntry sorted w e wrong
TellsEntry number sorted w e (Refused error) = error ≡ OutOfMemory
TellsEntry number sorted w e error = ⊥

-- The line spells no entry, and the error is not OutOfMemory.
abbrev pub IsSpeltWrong : Format → List ℕ → LineFault → Type 0
IsSpeltWrong format line (fault.Spelling error) =
    ((e : Entry) → ¬ LineSpells format line e) × (error ≢ spelling.OutOfMemory)
IsSpeltWrong format line wrong = ⊥

-- The error names the line, which spells no entry, or is OutOfMemory.
abbrev pub TellsSpelling : ℕ → Format → List ℕ → ToolError → Type 0
TellsSpelling number format line (Line n wrong) = (n ≡ number) × IsSpeltWrong format line wrong
TellsSpelling number format line (Refused error) = error ≡ OutOfMemory
TellsSpelling number format line error = ⊥

-- The error of a line at a writer that took the lines before it.
abbrev pub IsWrongLine : Format → TablesWriting → List ℕ → LineFault → Type 0
IsWrongLine format w line (fault.Spelling error) =
    IsSpeltWrong format line (fault.Spelling error)
IsWrongLine format w line wrong =
    (e : Entry) × LineSpells format line e × IsWrongEntry false w e wrong

-- The error names the line and what is wrong with it, or is OutOfMemory.
abbrev pub TellsLine : ℕ → Format → TablesWriting → List ℕ → ToolError → Type 0
TellsLine number format w line (Line n wrong) = (n ≡ number) × IsWrongLine format w line wrong
TellsLine number format w line (Refused error) = error ≡ OutOfMemory
TellsLine number format w line error = ⊥

-- The writer takes the entries of the first lines, and the error is that of the next line.
pub record StopsAt (format : Format) (lines : List (List ℕ)) (w : TablesWriting)
    (error : ToolError) : Type 0 where
  pub before : List (List ℕ)
  pub line : List ℕ
  pub behind : List (List ℕ)
  pub are : lines ≡ before ++ line ∷ behind
  pub entries : List Entry
  pub spelled : Spell format before entries
  pub writer : TablesWriting
  pub taken : TookAll w entries writer
  pub returned : TellsLine (length before + 1) format writer line error

-- The error is one of the input, or OutOfMemory.
abbrev pub IsOfInput : ToolError → Type 0
IsOfInput (Input error) = Unit {0}
IsOfInput (Refused error) = error ≡ OutOfMemory
IsOfInput error = ⊥

-- An error that names a line names the first that is wrong; others are of the input, or
-- OutOfMemory.
abbrev pub StopsIn : Format → Option (List ℕ) → TablesWriting → ToolError → Type 0
StopsIn format input w (Line n wrong) =
    IfSome input (λ bytes. StopsAt format (input_lines bytes) w (Line n wrong))
StopsIn format input w error = IsOfInput error

-- The first lines spell entries, and the next one spells none.
pub record StopsSpelling (format : Format) (lines : List (List ℕ)) (error : ToolError)
    : Type 0 where
  pub before : List (List ℕ)
  pub line : List ℕ
  pub behind : List (List ℕ)
  pub are : lines ≡ before ++ line ∷ behind
  pub entries : List Entry
  pub spelled : Spell format before entries
  pub returned : TellsSpelling (length before + 1) format line error

-- An error that names a line names the first that spells no entry; others are of the input, or
-- OutOfMemory.
abbrev pub StopsReading : Format → Option (List ℕ) → ToolError → Type 0
StopsReading format input (Line n wrong) =
    IfSome input (λ bytes. StopsSpelling format (input_lines bytes) (Line n wrong))
StopsReading format input error = IsOfInput error

-- The writer takes the first rows, and the error is that of the next one.
pub record StopsAmong (rows : List (ℕ × Entry)) (w : TablesWriting) (error : ToolError)
    : Type 0 where
  pub before : List (ℕ × Entry)
  pub row : ℕ × Entry
  pub behind : List (ℕ × Entry)
  pub are : rows ≡ before ++ row ∷ behind
  pub writer : TablesWriting
  pub taken : TookAll w (map (λ r. r.1) before) writer
  pub returned : TellsEntry row.0 true writer row.1 error

-- All lines spell entries, and the error is that of one of the sorted rows.
pub record StopsSorted (format : Format) (lines : List (List ℕ)) (w : TablesWriting)
    (error : ToolError) : Type 0 where
  pub rows : List (ℕ × Entry)
  pub spelled : SpellRows format 1 lines rows
  pub sorted : List (ℕ × Entry)
  pub put : IsSortOf is_row_before rows sorted
  pub stops : StopsAmong sorted w error

-- An error that names a line names the first that spells no entry, or else the first of the sorted
-- rows that is not taken; others are of the input, or OutOfMemory.
abbrev pub StopsInOrder : Format → Option (List ℕ) → TablesWriting → ToolError → Type 0
StopsInOrder format input w (Line n wrong) = IfSome input (λ bytes.
    StopsSpelling format (input_lines bytes) (Line n wrong)
    ⊎ StopsSorted format (input_lines bytes) w (Line n wrong))
StopsInOrder format input w error = IsOfInput error

-- The error of lines, in their order or sorted.
abbrev pub StopsLines : Bool → Format → Option (List ℕ) → TablesWriting → ToolError → Type 0
StopsLines false format input w error = StopsIn format input w error
StopsLines true format input w error = StopsInOrder format input w error

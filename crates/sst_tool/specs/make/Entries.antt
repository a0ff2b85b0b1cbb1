-- Lines and their entries.
use Rattle.std.specs.Prelude.{◌≡◌, ◌<◌, ℕ, suc, ◌==◌, Bool, true, false, List, [], ◌∷◌, length, map}
use Rattle.std.specs.Prelude.{◌≢◌, ◌++◌, IfSome, Option, Some, if◌then◌else◌}
use Rattle.std.specs.List.{All, onto_first}
use Rattle.std.specs.Io.KnownBytes.{IsAtEnd}
use Rattle.std.specs.Io.BufRead.{drop_through, first_piece}
use Rattle.sst_entries.specs.Entry.{Entry}
use Rattle.sst_tool.specs.lines.ObjectLine.{SpellsObject}
use Rattle.sst_tool.specs.lines.WordLine.{SpellsEntry}
use Rattle.sst_tool.specs.declared.lines.entry_line.Format.{Format}
use Rattle.sst_tool.specs.declared.lines.entry_line.Format.TheVariants.{Json, Lines}
use Rattle.sst_tool.specs.declared.make.entries.Numbered.{Numbered}

-- The lines of these bytes, without newlines. The last line may lack one.
abbrev pub input_lines : List ℕ → List (List ℕ)
input_lines [] = []
input_lines (b ∷ bs) = if b == 10 then [] ∷ input_lines bs else onto_first b (input_lines bs)

-- The bytes begin with this line, and lose it with its newline.
abbrev pub LosesInputLine : Option (List ℕ) → Option (List ℕ) → List ℕ → Type 0
LosesInputLine old new line = IfSome old (λ bytes.
    (0 < length bytes) × (line ≡ first_piece 10 bytes) × (new ≡ Some (drop_through 10 bytes)))

-- This line was read from the bytes, or none was left.
abbrev pub ReadsInputLine : Option (List ℕ) → Option (List ℕ) → List ℕ → Bool → Type 0
ReadsInputLine old new line true = LosesInputLine old new line
ReadsInputLine old new line false = IsAtEnd old

-- The line spells the entry, as words or as an object.
abbrev pub LineSpells : Format → List ℕ → Entry → Type 0
LineSpells format line e =
    (format ≡ Lines → SpellsEntry line e) × (format ≡ Json → SpellsObject line e)

-- Each line that is not empty spells the next entry.
abbrev pub Spell : Format → List (List ℕ) → List Entry → Type 0
Spell format [] es = es ≡ []
Spell format ([] ∷ lines) es = Spell format lines es
Spell format ((b ∷ line) ∷ lines) [] = ⊥
Spell format ((b ∷ line) ∷ lines) (e ∷ es) = LineSpells format (b ∷ line) e × Spell format lines es

-- The lines, numbered from here, spell these entries with their numbers.
abbrev pub SpellRows : Format → ℕ → List (List ℕ) → List (ℕ × Entry) → Type 0
SpellRows format number [] rows = rows ≡ []
SpellRows format number ([] ∷ lines) rows = SpellRows format (suc number) lines rows
SpellRows format number ((b ∷ line) ∷ lines) [] = ⊥
SpellRows format number ((b ∷ line) ∷ lines) (row ∷ rows) =
    (row.0 ≡ number) × LineSpells format (b ∷ line) row.1
    × SpellRows format (suc number) lines rows

-- The lines of the bytes spell these entries.
abbrev pub HasEntries : Format → Option (List ℕ) → List Entry → Type 0
HasEntries format input es = IfSome input (λ bytes. Spell format (input_lines bytes) es)

-- The lines of the bytes spell these entries with their numbers.
abbrev pub HasRows : Format → Option (List ℕ) → List (ℕ × Entry) → Type 0
HasRows format input rows = IfSome input (λ bytes. SpellRows format 1 (input_lines bytes) rows)

-- The entries of rows.
abbrev pub row_entries : {A : Type 0} → List (Numbered A) → List Entry
row_entries rows = map (λ row. row.entry) rows

-- The entries of rows, with their numbers.
abbrev pub numbered : {A : Type 0} → List (Numbered A) → List (ℕ × Entry)
numbered rows = map (λ row. (row.line, row.entry)) rows

-- The bytes of lines, each with its newline.
abbrev pub lines_text : List (List ℕ) → List ℕ
lines_text [] = []
lines_text (line ∷ lines) = line ++ 10 ∷ lines_text lines

-- Each line spells the entry at its index, and has no newline.
abbrev pub SpellInTurn : Format → List (List ℕ) → List Entry → Type 0
SpellInTurn format [] es = es ≡ []
SpellInTurn format (line ∷ lines) [] = ⊥
SpellInTurn format (line ∷ lines) (e ∷ es) =
    All (λ b. b ≢ 10) line × LineSpells format line e × SpellInTurn format lines es

-- The bytes of lines that spell these entries in turn have exactly these entries.
abbrev pub LinesLaw : Type 0
LinesLaw = (format : Format) (lines : List (List ℕ)) (es : List Entry)
    → SpellInTurn format lines es → HasEntries format (Some (lines_text lines)) es

-- The order of rows.
use Rattle.std.specs.Prelude.{◌≡◌, ◌<◌, ◌+◌, ◌++◌, ℕ, Bool, false, List, [], ◌∷◌, length, map}
use Rattle.std.specs.Prelude.{IfSome, IsPermutation, None, Option}
use Rattle.std.specs.List.Sorted.{IsSortedBy, IsStableBy}
use Rattle.sst_entries.specs.Entry.{Entry}
use Rattle.sst_entries.specs.Strict.{IsStrict, is_before, last_of, may_follow}
use Rattle.sst_tool.specs.declared.lines.entry_line.Format.{Format}
use Rattle.sst_tool.specs.declared.files.error.LineFault.TheVariants.{OutOfOrder, Repeated}
use Rattle.sst_tool.specs.declared.files.error.ToolError.{ToolError}
use Rattle.sst_tool.specs.declared.files.error.ToolError.TheVariants.{Line}
use Rattle.sst_tool.specs.make.Entries.{LineSpells, Spell, SpellRows, input_lines}

-- The list is sorted stably: it has the same items, none before its predecessor, and equal ones
-- keep their order.
pub record IsSortOf {X : Type 0} (before : X → X → Bool) (xs ys : List X) : Type 0 where
  pub permuted : IsPermutation xs ys
  pub sorted : IsSortedBy before ys
  pub stable : IsStableBy before xs ys

-- Ascending keys, then descending sequence numbers, whatever the lines.
abbrev pub is_row_before : ℕ × Entry → ℕ × Entry → Bool
is_row_before a b = is_before a.1 b.1

-- The first sorted row that has the key and sequence number of the one before it, which is of an
-- earlier line.
pub record IsFirstRepeated (rows : List (ℕ × Entry)) (number : ℕ) : Type 0 where
  pub order : List (ℕ × Entry)
  pub put : IsSortOf is_row_before rows order
  pub before : List (ℕ × Entry)
  pub first : ℕ × Entry
  pub row : ℕ × Entry
  pub behind : List (ℕ × Entry)
  pub are : order ≡ before ++ first ∷ row ∷ behind
  pub strict : IsStrict (map (λ r. r.1) (before ++ first ∷ []))
  pub same_key : first.1.user_key ≡ row.1.user_key
  pub same_number : first.1.seqno ≡ row.1.seqno
  pub earlier : first.0 < row.0
  pub line : number ≡ row.0

-- The entries up to this line are in strict order, and this one may not follow.
pub record IsFirstOutOfOrder (format : Format) (lines : List (List ℕ)) (number : ℕ)
    : Type 0 where
  pub before : List (List ℕ)
  pub line : List ℕ
  pub behind : List (List ℕ)
  pub are : lines ≡ before ++ line ∷ behind
  pub entries : List Entry
  pub spelled : Spell format before entries
  pub strict : IsStrict entries
  pub entry : Entry
  pub spells : LineSpells format line entry
  pub breaks : may_follow (last_of None entries) entry ≡ false
  pub counted : number ≡ length before + 1

-- A line that is reported as repeated or out of order is the first such one.
abbrev pub TellsLineOrder : Format → Option (List ℕ) → ToolError → Type 0
TellsLineOrder format input (Line n Repeated) = IfSome input (λ bytes. (rows : List (ℕ × Entry))
    × SpellRows format 1 (input_lines bytes) rows × IsFirstRepeated rows n)
TellsLineOrder format input (Line n OutOfOrder) =
    IfSome input (λ bytes. IsFirstOutOfOrder format (input_lines bytes) n)
TellsLineOrder format input error = Unit {0}

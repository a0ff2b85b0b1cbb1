-- What is written of entries, a line each, is read as these entries.
use Rattle.std.proofs.Common.{◌≡◌, ◌≢◌, refl, sym, ◌∙◌, ap, subst, ℕ, Bool, true, false, List, [], ◌∷◌}
use Rattle.std.proofs.Common.{◌++◌}
use Rattle.std.specs.Prelude.{◌==◌, Some, if◌then◌else◌}
use Rattle.std.specs.List.{All, onto_first}
use Rattle.std.proofs.lemmas.Bool.{eqb-true}
use Rattle.std.proofs.lemmas.List.Elements.{All-head, All-tail}
use Rattle.sst_entries.specs.Entry.{Entry}
use Rattle.sst_tool.specs.declared.lines.entry_line.Format.{Format}
use Rattle.sst_tool.specs.declared.lines.entry_line.Format.TheVariants.{Json, Lines}
use Rattle.sst_tool.proofs.EmptyLine.{empty_no_object, empty_no_words}
use Rattle.sst_tool.specs.make.Entries.{SpellInTurn, HasEntries, LineSpells, Spell, input_lines}
use Rattle.sst_tool.specs.make.Entries.{lines_text}

no_end_by : (b : ℕ) (t : Bool) → (b == 10) ≡ t → b ≢ 10 → t ≡ false
no_end_by b true h other = absurd (other (eqb-true b 10 h))
no_end_by b false h other = refl

-- the first line, and what is behind its end
first_line : (line rest : List ℕ) → All (λ b. b ≢ 10) line
    → input_lines (line ++ 10 ∷ rest) ≡ line ∷ input_lines rest
first_line [] rest h = refl
first_line (b ∷ line) rest h =
    let behind : List (List ℕ) = input_lines (line ++ 10 ∷ rest) in
    ap (λ (t : Bool). if t then [] ∷ behind else onto_first b behind)
    (no_end_by b (b == 10) refl (All-head (λ (x : ℕ). x ≢ 10) b line h))
    ∙ ap (onto_first b) (first_line line rest (All-tail (λ (x : ℕ). x ≢ 10) b line h))

none_empty : (format : Format) (e : Entry) → LineSpells format [] e → ⊥
none_empty Lines e h = empty_no_words e (h.0 refl)
none_empty Json e h = empty_no_object e (h.1 refl)

spell_more : (format : Format) (line : List ℕ) (lines : List (List ℕ)) (e : Entry)
    (es : List Entry) → LineSpells format line e → Spell format lines es
    → Spell format (line ∷ lines) (e ∷ es)
spell_more format [] lines e es h k = absurd (none_empty format e h)
spell_more format (b ∷ line) lines e es h k = (h, k)

pub lines_read : (format : Format) (lines : List (List ℕ)) (es : List Entry)
    → SpellInTurn format lines es → HasEntries format (Some (lines_text lines)) es
lines_read format [] es h = h
lines_read format (line ∷ lines) [] h = absurd h
lines_read format (line ∷ lines) (e ∷ es) h =
    subst (λ (ls : List (List ℕ)). Spell format ls (e ∷ es))
    (sym (first_line line (lines_text lines) h.0))
    (spell_more format line (input_lines (lines_text lines)) e es h.1
    (lines_read format lines es h.2))

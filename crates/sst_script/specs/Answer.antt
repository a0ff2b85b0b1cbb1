-- The text of results.
use Rattle.std.specs.Prelude.{ℕ, List, [], ◌∷◌, ◌++◌, Option, Some, None, codes}
use Rattle.std.specs.Fmt.{decimal}
use Rattle.std.specs.List.{flat_map, join_with_byte}
use Rattle.sst_entries.specs.Entry.{Entry}
use Rattle.sst_script.specs.declared.print.Answer.{Answer}
use Rattle.sst_script.specs.declared.print.Answer.TheVariants.{Silent, Tables, Runs, Lines}
use Rattle.sst_script.specs.Text.{letter_of, printed}

-- an entry's line: its key, seqno, kind and value
abbrev pub entry_line : Entry → List ℕ
entry_line e =
    join_with_byte 32
    (printed e.user_key ∷ decimal e.seqno ∷ (letter_of e.kind ∷ []) ∷ printed e.value ∷ [])
    ++ 10 ∷ []

-- the line if nothing was found
abbrev pub none_line : List ℕ
none_line = codes "none" ++ 10 ∷ []

-- the line of an entry that was found, or the line for none
abbrev pub found_line : Option Entry → List ℕ
found_line None = none_line
found_line (Some e) = entry_line e

-- entries, each on a line of its own
abbrev pub entry_lines : List Entry → List ℕ
entry_lines [] = none_line
entry_lines (e ∷ es) = flat_map entry_line (e ∷ es)

-- the lines of a result, if it has any
abbrev pub answer_lines : {A : Type 0} → Answer A → List ℕ
answer_lines Silent = []
answer_lines (Tables n) = codes "tables " ++ decimal n ++ 10 ∷ []
answer_lines (Runs n) = codes "runs " ++ decimal n ++ 10 ∷ []
answer_lines (Lines v) = v.items

abbrev pub refusal_line : ℕ → List ℕ
refusal_line n = codes "refused " ++ decimal n ++ 10 ∷ []

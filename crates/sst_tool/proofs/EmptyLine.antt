-- A line without a byte spells no entry.
use Rattle.std.proofs.Common.{◌≡◌, [], ◌∷◌}
use Rattle.std.specs.Prelude.{Some}
use Rattle.json.specs.Json.{Json, document, object, value}
use Rattle.json.specs.Lex.{lex, punctuate}
use Rattle.sst_entries.specs.Entry.{Entry}
use Rattle.sst_tool.specs.lines.ObjectLine.{SpellsObject}
use Rattle.sst_tool.specs.lines.WordLine.{SpellsEntry, line_words}

pub empty_no_words : (e : Entry) → SpellsEntry [] e → ⊥
empty_no_words e h =
    let w = h.words in
    let four : line_words [] ≡ w.key ∷ w.number ∷ w.kind ∷ w.value ∷ [] = w.are in
    absurd cc

no_document : (json : Json) → document [] ≡ Some json → ⊥
unfolding lex punctuate value
no_document json h = absurd cc

pub empty_no_object : (e : Entry) → SpellsObject [] e → ⊥
empty_no_object e h = no_document (object h.members.members) h.members.strict.is_document

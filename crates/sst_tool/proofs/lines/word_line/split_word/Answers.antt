use Rattle.std.proofs.Common.{◌∙◌, ap, sym, ◌-◌, ◌+◌, List, ℕ, ◌∷◌, take, drop, length, arith}
use Rattle.std.proofs.lemmas.List.{take_all, length-drop}
use Rattle.sst_tool.specs.lines.WordLine.{line_words}
use Rattle.sst_tool.proofs.WordLemmas.{cut_at, uncut}
use Rattle.sst_tool.proofs.lines.word_line.split_word.Goals as goal

pub returns-in-Some : goal.returns-in-Some
returns-in-Some c =
    let line = c.args.line.now in
    let at = c.in-Some.at in
    cut_at line at c.in-Some.ensures.first ∙ ap (λ (rest : List ℕ). take at line ∷ line_words rest) (sym (take_all (length line - (at + 1)) (drop (at + 1) line) (omega (arith, length-drop (at + 1) line))))

pub returns-in-None : goal.returns-in-None
returns-in-None c = uncut c.args.line.now c.in-None.ensures.first

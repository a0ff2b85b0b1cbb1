use Rattle.std.proofs.Common.{◌∙◌, ◌++◌, ap, sym, List, ℕ}
use Rattle.std.specs.Prelude.{Ok, ◌==◌}
use Rattle.std.specs.List.{flat_map}
use Rattle.sst_script.specs.Answer.{entry_line}
use Rattle.sst_script.proofs.LineLemmas.{lines_are, none_are}
use Rattle.sst_script.proofs.lines.lines_of.Goals as goal

pub returns-then-not-is_empty : goal.returns-then-not-is_empty
returns-then-not-is_empty g c es yields =
    ap (λ (text : List ℕ). Ok text) (sym (lines_are es c.add_lines.new.text.items
    (c.in_ok-add_lines.ensures.lines es yields ∙ ap (λ (text : List ℕ). text ++ flat_map entry_line es) c.new-text.ensures.items)
    (ap (λ (n : ℕ). n == 0) (sym c.add_lines.new.text.ok.0) ∙ sym c.if-not-is_empty.ensures)))

pub returns : goal.returns
returns g c es yields =
    ap (λ (text : List ℕ). Ok text) (sym (none_are es c.add_lines.new.text.items c.extend_from_slice.new.self.items
    (c.in_ok-add_lines.ensures.lines es yields ∙ ap (λ (text : List ℕ). text ++ flat_map entry_line es) c.new-text.ensures.items)
    (ap (λ (n : ℕ). n == 0) (sym c.add_lines.new.text.ok.0) ∙ sym c.if-not-is_empty.ensures)
    c.in_ok-extend_from_slice.ensures.items))

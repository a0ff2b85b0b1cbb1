use Rattle.std.proofs.Common.{◌≡◌, ◌∙◌, refl, subst, [], ◌∷◌, ◌++◌, List, ℕ, append_assoc}
use Rattle.std.specs.Fmt.{decimal}
use Rattle.std.specs.Io.KnownBytes.{Appends}
use Rattle.std.proofs.KnownBytes.{Appends-nil, Appends-trans}
use Rattle.sst_script.specs.Shown.{AppendsFront}
use Rattle.sst_script.proofs.ShownLemmas.{front_failed, shows_last}
use Rattle.sst_script.proofs.print.print_counted.Goals as goal

pub returns-in_err-write_text : goal.returns-in_err-write_text
returns-in_err-write_text g c =
    let word = c.args.word.now in
    let digits = decimal c.args.count in
    let before = g.W.Write.contents c.args.output.now in
    front_failed before before (g.W.Write.contents c.write_text.new.output) (word ++ digits ++ 10 ∷ []) [] word (digits ++ 10 ∷ []) c.from_residual.result c.in_err-write_text.field-0.0 c.from_residual.ensures.1 (append_assoc word digits (10 ∷ []))
    (Appends-nil before) c.in_err-write_text.ensures

pub returns-in_err-write_text-2 : goal.returns-in_err-write_text-2
returns-in_err-write_text-2 g c =
    let word = c.args.word.now in
    let digits = decimal c.args.count in
    let before = g.W.Write.contents c.args.output.now in
    let between = g.W.Write.contents c.write_text.new.output in
    let after = g.W.Write.contents c.write_text-2.new.output in
    let number : c.as_bytes.result.now ≡ digits = c.as_bytes.ensures.value ∙ c.format.ensures.text in
    front_failed before between after (word ++ digits ++ 10 ∷ []) word digits (10 ∷ []) c.from_residual-in_err-write_text-2.result c.in_err-write_text-2.field-0.0 c.from_residual-in_err-write_text-2.ensures.1 refl
    c.in_ok-write_text.ensures
    (subst (λ (text : List ℕ). AppendsFront between after text) number c.in_err-write_text-2.ensures)

pub returns : goal.returns
returns g c =
    let word = c.args.word.now in
    let digits = decimal c.args.count in
    let before = g.W.Write.contents c.args.output.now in
    let between = g.W.Write.contents c.write_text.new.output in
    let behind = g.W.Write.contents c.write_text-2.new.output in
    let number : c.as_bytes.result.now ≡ digits = c.as_bytes.ensures.value ∙ c.format.ensures.text in
    shows_last before behind (g.W.Write.contents c.write_text-3.new.output) (word ++ digits ++ 10 ∷ []) (word ++ digits) (10 ∷ []) c.write_text-3.result refl
    (Appends-trans before between behind word digits c.in_ok-write_text.ensures (subst (λ (text : List ℕ). Appends between behind text) number c.in_ok-write_text-2.ensures))
    c.write_text-3.ensures

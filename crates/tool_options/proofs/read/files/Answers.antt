use Rattle.std.proofs.Common.{Bor, ◌≡◌, ◌∙◌, ap, List, sym}
use Rattle.std.specs.Prelude.{Some, None, map, option_map}
use Rattle.std.proofs.lemmas.Result.{IfOk-weaker}
use Rattle.clap.specs.Words.{Text, found_of, rows_of}
use Rattle.tool_options.specs.Tasks.{named_files, texts_of}
use Rattle.tool_options.proofs.ReadLemmas.{placed_of}
use Rattle.tool_options.proofs.read.files.Goals as goal

pub returns-in-Some : goal.returns-in-Some
returns-in-Some c =
    let f = found_of c.args.matches.now in
    let shown = option_map (λ (s : Bor (List (Bor Text))). map (λ (v : Bor Text). v.now) s.now) in
    let there : texts_of c.in-Some.files.now ≡ named_files (rows_of f) =
    placed_of f (shown (Some c.in-Some.files)) (sym (ap shown c.in-Some.is) ∙ c.get_strs.ensures) in
    IfOk-weaker c.to_vec.result _ _ (λ v same. ap texts_of (same (λ x y e. e)) ∙ there) c.to_vec.ensures.items_if_clones_equal

pub returns-in-None : goal.returns-in-None
returns-in-None c =
    let f = found_of c.args.matches.now in
    let shown = option_map (λ (s : Bor (List (Bor Text))). map (λ (v : Bor Text). v.now) s.now) in
    ap texts_of c.new.ensures.items ∙ placed_of f (shown None) (sym (ap shown c.in-None.is) ∙ c.get_strs.ensures)

use Rattle.std.proofs.Common.{◌∙◌, List, ap, map, subst}
use Rattle.std.specs.Prelude.{Option}
use Rattle.std.proofs.lemmas.Result.{IfOk-weaker}
use Rattle.clap.specs.Words.{App, Row, Text, is_simple, subcommand_of}
use Rattle.tool_options.specs.Asks.{AsksBy}
use Rattle.tool_options.specs.Program.{program_of}
use Rattle.tool_options.proofs.words.parse_by.Goals as goal

pub returns-in-Ok : goal.returns-in-Ok
returns-in-Ok g c = λ simple.
    let app = c.in_ok-program.ensures.app in
    let same = c.in-Ok.ensures.matches (ap is_simple app ∙ simple) in
    let words = map g.S.AsStr.text c.args.words.now in
    IfOk-weaker c.answer.result _ _ (λ p asks. subst (λ (found : Option (Text × List Row)). AsksBy found p)
    (same.1 ∙ ap (λ (a : App). subcommand_of a words) app) asks) c.answer.ensures

pub returns-in-Err : goal.returns-in-Err
returns-in-Err g c = λ simple.
    c.explain.ensures (subcommand_of (program_of c.args.commands.now) (map g.S.AsStr.text c.args.words.now))

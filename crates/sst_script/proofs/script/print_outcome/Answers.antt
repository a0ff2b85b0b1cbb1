use Rattle.sst_script.specs.Answer.{answer_lines}
use Rattle.sst_script.proofs.ScriptLemmas.{ends_shown}
use Rattle.sst_script.proofs.script.print_outcome.Goals as goal

pub returns-in-Ok : goal.returns-in-Ok
returns-in-Ok g c =
    let before = g.W.Write.contents c.args.output.now in
    let after = g.W.Write.contents c.pass_on.new.output in
    let text = answer_lines c.in-Ok.answer in
    rw c.in-Ok.is
    (ends_shown c.args.number text before after c.pass_on.result (c.pass_on.ensures.shown before text c.print_answer.ensures) c.pass_on.ensures.stop)

use Rattle.std.proofs.Common.{◌<◌, length, rules}
use Rattle.sst_script.specs.Command.{words_of, AskFor}
use Rattle.sst_script.specs.Answering.{outcome_text}
use Rattle.sst_script.specs.Script.{store}
use Rattle.sst_script.proofs.ScriptLemmas.{ends_printed, ends_stops}
use Rattle.sst_script.proofs.script.Script.answer_line.Goals as goal

pub returns-clause-ended : goal.returns-clause-ended
returns-clause-ended g c before same =
    let some : 0 < length c.args.line.now = search rules in
    let asked : AskFor (words_of c.args.line.now) c.in_ok-command.command = search rules in
    let done = c.execute.ensures.done before same in
    let ended = ends_printed
    c.args.number
    c.args.line.now
    c.in_ok-command.command
    (store c.args.self.now.pending before c.args.self.now.ids)
    (store c.execute.new.self.pending done.0 c.execute.new.self.ids)
    c.execute.result
    (g.W.Write.contents c.args.output.now)
    (g.W.Write.contents c.print_outcome.new.output)
    c.print_outcome.result
    some
    asked
    done.2
    c.print_outcome.ensures in
    (done.0, done.1, ended)

pub returns-clause-stops : goal.returns-clause-stops
returns-clause-stops g c = ends_stops c.args.number (outcome_text c.execute.result) (g.W.Write.contents c.args.output.now) (g.W.Write.contents c.print_outcome.new.output) c.print_outcome.result c.print_outcome.ensures

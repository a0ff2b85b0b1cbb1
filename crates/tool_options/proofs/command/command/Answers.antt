use Rattle.std.proofs.Common.{◌∙◌}
use Rattle.tool_options.proofs.ProgramLemmas.{argument_added, still_local}
use Rattle.tool_options.proofs.command.command.Goals as goal

pub loop-taken-preserved : goal.loop-taken-preserved
loop-taken-preserved c =
    let at = c.loop-taken in
    let adds = c.in_ok-command.ensures in
    let made = c.argument.ensures in (
      argument_added at.command c.in_ok-command.command c.argument.result adds made.local _ c.args.text.now.arguments.now at.taken-index _
          c.loop-taken-test.true at.invariant.0 made.rule,
      still_local _ _ _ adds.globals made.local ∙ at.invariant.1,
    )

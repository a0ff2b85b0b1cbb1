use Rattle.std.proofs.Common.{◌∙◌}
use Rattle.tool_options.specs.Program.{bare_program}
use Rattle.tool_options.proofs.ProgramLemmas.{command_added, still_local}
use Rattle.tool_options.proofs.command.program.Goals as goal

pub loop-text-preserved : goal.loop-text-preserved
loop-text-preserved c =
    let at = c.loop-text in
    let adds = c.in_ok-program.ensures in
    let sub = c.in_ok-command.ensures in (
      command_added at.program c.in_ok-command.field-0 c.in_ok-program.program adds sub.local bare_program c.args.commands.now
          at.text-index _ c.loop-text-test.true at.invariant.0 sub.app,
      still_local _ _ _ adds.globals sub.local ∙ at.invariant.1,
    )

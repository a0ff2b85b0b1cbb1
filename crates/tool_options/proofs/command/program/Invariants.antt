use Rattle.std.proofs.Common.{◌≡◌, take, false}
use Rattle.std.specs.List.{fold}
use Rattle.clap.specs.Words.{app_of}
use Rattle.clap.specs.declared.builder.command.Command.TheViews.{out-Command}
use Rattle.tool_options.specs.Program.{bare_program, with_command}
use Rattle.tool_options.proofs.command.program.Given as goal

abbrev pub invariant-loop-text : goal.invariant-loop-text
invariant-loop-text l = (app_of l.program ≡ fold with_command bare_program (take l.text-index l.commands))
    × ((out-Command l.program).has_globals ≡ false)

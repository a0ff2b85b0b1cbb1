use Rattle.std.proofs.Common.{◌≡◌, false, take}
use Rattle.std.specs.List.{fold}
use Rattle.clap.specs.Words.{app_of, new_app}
use Rattle.clap.specs.declared.builder.command.Command.TheViews.{out-Command}
use Rattle.tool_options.specs.Program.{with_argument}
use Rattle.tool_options.proofs.command.command.Given as goal

abbrev pub invariant-loop-taken : goal.invariant-loop-taken
invariant-loop-taken l = (app_of l.command
    ≡ fold with_argument (new_app l.text.name.now) (take l.taken-index l.text.arguments.now))
    × ((out-Command l.command).has_globals ≡ false)

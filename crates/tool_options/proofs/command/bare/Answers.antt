use Rattle.std.proofs.Common.{◌∙◌, ap, true}
use Rattle.clap.specs.Words.{App}
use Rattle.clap.specs.Simple.{app_of_fields}
use Rattle.clap.specs.declared.builder.command.Command.{Command}
use Rattle.clap.specs.declared.builder.command.Command.TheOpen.{Command-F}
use Rattle.tool_options.proofs.command.bare.Goals as goal

pub returns : goal.returns
returns c = record {
  app = ap app_of_fields c.arg_required_else_help.ensures
      ∙ ap (λ (a : App). record a { top = record a.top { arg_required_else_help = true } })
      (ap app_of_fields c.subcommand_required.ensures
      ∙ ap (λ (a : App). record a { top = record a.top { subcommand_required = true } })
      (ap app_of_fields c.after_help.ensures ∙ ap app_of_fields c.version.ensures
      ∙ ap (λ (a : App). record a { top = record a.top { has_version = true } })
      (ap app_of_fields c.about.ensures ∙ c.new.ensures.app)));
  local = (let local = λ (f : Command-F Command). f.has_globals in
      ap local c.arg_required_else_help.ensures ∙ ap local c.subcommand_required.ensures
      ∙ ap local c.after_help.ensures ∙ ap local c.version.ensures ∙ ap local c.about.ensures ∙ c.new.ensures.local);
}

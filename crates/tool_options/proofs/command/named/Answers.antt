use Rattle.std.proofs.Common.{◌∙◌, ap}
use Rattle.clap.specs.Simple.{app_of_fields}
use Rattle.clap.specs.declared.builder.command.Command.{Command}
use Rattle.clap.specs.declared.builder.command.Command.TheOpen.{Command-F}
use Rattle.tool_options.proofs.command.named.Goals as goal

pub returns : goal.returns
returns c = record {
  app = ap app_of_fields c.after_help.ensures ∙ ap app_of_fields c.override_usage.ensures
      ∙ ap app_of_fields c.about.ensures ∙ c.new.ensures.app;
  local = (let local = λ (f : Command-F Command). f.has_globals in
      ap local c.after_help.ensures ∙ ap local c.override_usage.ensures
      ∙ ap local c.about.ensures ∙ c.new.ensures.local);
}

use Rattle.std.proofs.Common.{◌∙◌, ap, sym, true}
use Rattle.std.specs.Prelude.{Some}
use Rattle.clap.specs.Words.{Rule, rule_of}
use Rattle.clap.specs.declared.builder.action.ArgAction.TheVariants.{SetTrue}
use Rattle.tool_options.specs.Program.{formed, unformed}
use Rattle.tool_options.specs.declared.texts.Form.{Form}
use Rattle.tool_options.proofs.command.argument.Goals as goal

pub returns-in-Flag-clause-rule : goal.returns-in-Flag-clause-rule
returns-in-Flag-clause-rule c =
    let t = c.args.text.now in
    ap rule_of c.action.ensures ∙ ap (λ (r : Rule). record r { action = Some SetTrue })
    (ap rule_of c.long.ensures ∙ ap (λ (r : Rule). record r { long = Some t.name.now }) c.unformed-argument.ensures.rule)
    ∙ sym (ap (λ (f : Form). formed f (unformed t)) c.in-Flag.is)

pub returns-in-Option-clause-rule : goal.returns-in-Option-clause-rule
returns-in-Option-clause-rule c =
    let t = c.args.text.now in
    ap rule_of c.long-in-Option.ensures ∙ ap (λ (r : Rule). record r { long = Some t.name.now }) c.unformed-argument.ensures.rule
    ∙ sym (ap (λ (f : Form). formed f (unformed t)) c.in-Option.is)

pub returns-in-Place-clause-rule : goal.returns-in-Place-clause-rule
returns-in-Place-clause-rule c =
    let t = c.args.text.now in
    c.unformed-argument.ensures.rule
    ∙ sym (ap (λ (f : Form). formed f (unformed t)) c.in-Place.is)

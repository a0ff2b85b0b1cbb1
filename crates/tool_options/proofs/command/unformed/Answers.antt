use Rattle.std.proofs.Common.{◌≡◌, ◌∙◌, ap, length, true}
use Rattle.std.specs.Prelude.{Option, Some}
use Rattle.clap.specs.Words.{Rule, new_rule, rule_of}
use Rattle.clap.specs.declared.builder.texts.Texts.TheVariants.{Many}
use Rattle.clap.specs.declared.builder.arg.Arg.{Arg}
use Rattle.clap.specs.declared.builder.value_parser.ValueParser.{ValueParser}
use Rattle.tool_options.specs.Program.{parser_of, unformed}
use Rattle.tool_options.specs.Tasks.{texts_of}
use Rattle.tool_options.specs.declared.texts.ArgumentText.{ArgumentText}
use Rattle.tool_options.proofs.command.unformed.Goals as goal

is_said : (t : ArgumentText) (fresh helped required defaulted named parsed hidden : Arg) (p : ValueParser)
    → rule_of fresh ≡ new_rule t.name.now
    → helped ≡ record fresh { help = Some t.help }
    → required ≡ record helped { required = t.required }
    → defaulted ≡ record required { default_vals = Many t.standard }
    → named ≡ record defaulted { val_names = Many t.values }
    → parsed ≡ record named { value_parser = parsed.value_parser }
    → (q : ValueParser) × (parsed.value_parser ≡ Some q) × (q ≡ p) → p ≡ parser_of t.form
    → hidden ≡ record parsed { hide_possible_values = true }
    → rule_of hidden ≡ unformed t
is_said t fresh helped required defaulted named parsed hidden p new e1 e2 e3 e4 e5 given is e6 =
    let one : rule_of required ≡ record (new_rule t.name.now) { required = t.required } =
    ap rule_of e2 ∙ ap (λ (r : Rule). record r { required = t.required }) (ap rule_of e1 ∙ new) in
    let two : rule_of named ≡ record (new_rule t.name.now) {
      value_names = length t.values.now;
      defaults = texts_of t.standard.now;
      required = t.required;
    } =
    ap rule_of e4 ∙ ap (λ (r : Rule). record r { value_names = length t.values.now })
    (ap rule_of e3 ∙ ap (λ (r : Rule). record r { defaults = texts_of t.standard.now }) one) in
    ap rule_of e6 ∙ ap rule_of e5
    ∙ ap (λ (r : Rule). record r { parser = parsed.value_parser }) two
    ∙ ap (λ (o : Option ValueParser). record (unformed t) { parser = o }) (given.1 ∙ ap Some (given.2 ∙ is))

pub returns-clause-rule : goal.returns-clause-rule
returns-clause-rule c =
    is_said c.args.text.now c.new.result c.help.result c.required.result c.default_values.result c.value_names.result
    c.value_parser-2.result c.hide_possible_values.result c.value_parser.result c.new.ensures.rule c.help.ensures
    c.required.ensures c.default_values.ensures c.value_names.ensures c.value_parser-2.ensures.others
    c.value_parser-2.ensures.given c.value_parser.ensures c.hide_possible_values.ensures

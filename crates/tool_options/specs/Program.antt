-- The parser of the program, made from its texts.
use Rattle.std.specs.Prelude.{List, [], Some, true, codes, length}
use Rattle.std.specs.List.{fold}
use Rattle.clap.specs.Lexer.{usize_max}
use Rattle.clap.specs.Words.{App, Rule, new_app, new_rule, with_rule, with_subcommand}
use Rattle.clap.specs.Simple.{new_shape}
use Rattle.clap.specs.declared.builder.action.ArgAction.TheVariants.{SetTrue}
use Rattle.clap.specs.declared.builder.value_parser.ValueParser.{ValueParser}
use Rattle.clap.specs.declared.builder.value_parser.ValueParser.TheVariants as parser
use Rattle.tool_options.specs.Tasks.{texts_of}
use Rattle.tool_options.specs.declared.texts.ArgumentText.{ArgumentText}
use Rattle.tool_options.specs.declared.texts.CommandText.{CommandText}
use Rattle.tool_options.specs.declared.texts.Form.{Form}
use Rattle.tool_options.specs.declared.texts.Form.TheVariants as form
use Rattle.tool_options.specs.declared.texts.Takes.{Takes}
use Rattle.tool_options.specs.declared.texts.Takes.TheVariants as takes

-- The parser of a value.
abbrev pub value_of : Takes → ValueParser
value_of takes.Text = parser.String
value_of takes.File = parser.String
value_of (takes.Number least most) = parser.Unsigned least most
value_of (takes.Names names) = parser.Names names

abbrev pub parser_of : Form → ValueParser
parser_of form.Flag = parser.Bool
parser_of (form.Option takes) = value_of takes
parser_of (form.Place takes) = value_of takes
parser_of form.Files = parser.String

-- The argument in its form. Files are one or more words.
abbrev pub formed : Form → Rule → Rule
formed form.Flag r = record r { long = Some r.id; action = Some SetTrue }
formed (form.Option takes) r = record r { long = Some r.id }
formed (form.Place takes) r = r
formed form.Files r = record r {
  range = Some (record { start_inclusive = 1; end_inclusive = usize_max });
}

-- The argument without its form.
abbrev pub unformed : ArgumentText → Rule
unformed t = record (new_rule t.name.now) {
  value_names = length t.values.now;
  defaults = texts_of t.standard.now;
  parser = Some (parser_of t.form);
  required = t.required;
}

abbrev pub argument_rule : ArgumentText → Rule
argument_rule t = formed t.form (unformed t)

abbrev pub with_argument : App → ArgumentText → App
with_argument a t = with_rule a (argument_rule t)

-- One command.
abbrev pub command_app : CommandText → App
command_app c = fold with_argument (new_app c.name.now) c.arguments.now

abbrev pub with_command : App → CommandText → App
with_command a c = with_subcommand a (command_app c).top

-- The program without its commands.
abbrev pub bare_program : App
bare_program = record {
  top = record (new_shape (codes "sst")) {
    has_version = true;
    arg_required_else_help = true;
    subcommand_required = true;
  };
  subs = [];
}

-- The program with these commands.
abbrev pub program_of : List CommandText → App
program_of commands = fold with_command bare_program commands

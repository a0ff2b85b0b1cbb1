-- The definitions that contracts of this crate cite, under one name.
pub use Rattle.clap.specs.Matches.{found_of}
pub use Rattle.clap.specs.Simple.{app_of, is_simple, new_app, subcommand_of, subcommand_rows_of}
pub use Rattle.clap.specs.Walk.{Row, Text, first_of, one_of, rows_of, rule_of}
pub use Rattle.clap.specs.declared.builder.command.Command.TheViews.{out-Command}
pub use Rattle.tool_options.specs.Asks.{AsksBy, AsksFrom}
pub use Rattle.tool_options.specs.Program.{argument_rule, bare_program, command_app, parser_of}
pub use Rattle.tool_options.specs.Program.{program_of, unformed, value_of}
pub use Rattle.tool_options.specs.Tasks.{AsksFor, AsksForTables, Has, Spells, SpellsBits, named_files}
pub use Rattle.tool_options.specs.Tasks.{text_in, texts_of}

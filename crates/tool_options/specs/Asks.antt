-- The meaning of the command line.
use Rattle.std.specs.Prelude.{◌≡◌, ⊤, List, Option, Some}
use Rattle.clap.specs.Words.{Row, Text, subcommand_of}
use Rattle.tool_options.specs.Commands.{commands, commands_in}
use Rattle.tool_options.specs.Program.{program_of}
use Rattle.tool_options.specs.declared.texts.CommandText.{CommandText}
use Rattle.tool_options.specs.Tasks.{AsksFor}
use Rattle.tool_options.specs.declared.words.Parsed.{Parsed}
use Rattle.tool_options.specs.declared.words.Parsed.TheVariants as parsed

-- If the result is a task, the command with these arguments asks for it.
abbrev pub AsksBy : Option (Text × List Row) → Parsed → Type 0
AsksBy found (parsed.Task t) =
    (name : Text) × (rows : List Row) × (found ≡ Some (name, rows)) × AsksFor name rows t
AsksBy found (parsed.Shown text) = ⊤
AsksBy found (parsed.Mistaken text) = ⊤

-- The result of the words, parsed by a program with these commands.
abbrev pub AsksFrom : List Text → Parsed → Type 0
AsksFrom words p = (texts : List CommandText) × (commands_in (program_of texts) ≡ commands)
    × AsksBy (subcommand_of (program_of texts) words) p

use Rattle.clap.specs.Words.{subcommand_rows_of}
use Rattle.tool_options.proofs.words.answer.Goals as goal

pub returns-in-None : goal.returns-in-None
returns-in-None c = c.mistake.ensures (subcommand_rows_of c.args.matches.now)

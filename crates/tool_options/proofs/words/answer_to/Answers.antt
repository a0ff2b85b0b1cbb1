use Rattle.std.specs.Prelude.{Some}
use Rattle.clap.specs.Words.{found_of, rows_of}
use Rattle.tool_options.proofs.words.answer_to.Goals as goal

pub returns-in-Err : goal.returns-in-Err
returns-in-Err c =
    c.mistake.ensures (Some (c.args.name.now, rows_of (found_of c.args.matches.now)))

pub returns-in-completion : goal.returns-in-completion
returns-in-completion c =
    c.complete.ensures (Some (c.args.name.now, rows_of (found_of c.args.matches.now)))

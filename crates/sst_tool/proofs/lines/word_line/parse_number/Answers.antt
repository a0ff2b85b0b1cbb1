use Rattle.std.proofs.lemmas.Fmt.{IsAscii-from_digits}
use Rattle.std.proofs.lemmas.Str.{IsUtf8-from_ascii}
use Rattle.sst_tool.proofs.lines.word_line.parse_number.Goals as goal

pub returns-in-Err : goal.returns-in-Err
returns-in-Err c = λ number. c.in-Err.ensures.cases.0 (IsUtf8-from_ascii c.args.word.now (IsAscii-from_digits c.args.word.now number.digits))

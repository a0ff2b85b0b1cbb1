use Rattle.std.proofs.Common.{rules}
use Rattle.std.specs.Option.{option_copied}
use Rattle.sst_tool.proofs.WordLemmas.{copied_some, five_words}
use Rattle.sst_tool.proofs.lines.word_line.split_line.Goals as goal

pub returns-then-is_some-clause-none : goal.returns-then-is_some-clause-none
returns-then-is_some-clause-none c =
    five_words c.args.line.now (c.split_word.result).0.now c.in_ok-rest.field-0.now
    (c.split_word-2.result).0.now c.in_ok-rest-2.field-0.now (c.split_word-3.result).0.now
    c.in_ok-rest-3.field-0.now (c.split_word-4.result).0.now
    (option_copied (c.split_word-4.result).1)
    (search rules) (search rules) (search rules) c.split_word-4.ensures
    (copied_some (c.split_word-4.result).1 (search rules))

use Rattle.std.proofs.Common.{rules}
use Rattle.sst_tool.proofs.EscapeLemmas.{refused_word}
use Rattle.sst_tool.proofs.lines.escapes.parse_word.Goals as goal

pub returns-clause-refused : goal.returns-clause-refused
returns-clause-refused g c = refused_word c.parse_codes.result c.args.word.now c.args.fault
    (search rules) c.parse_codes.ensures.refused

use Rattle.sst_tool.proofs.LineLemmas.{spelling_named}
use Rattle.sst_tool.proofs.make.entries.parse_line.Goals as goal

pub returns-in-Err-clause-refused : goal.returns-in-Err-clause-refused
returns-in-Err-clause-refused g c =
    let read = c.in-Err.ensures in
    spelling_named c.args.number c.args.format c.args.line.now c.in-Err.error
    c.spelling_error.result read.no_words read.no_object c.spelling_error.ensures.memory
    c.spelling_error.ensures.fault

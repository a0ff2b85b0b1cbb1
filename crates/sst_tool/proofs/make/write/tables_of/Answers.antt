use Rattle.sst_tool.proofs.LineLemmas.{handed_on}
use Rattle.sst_tool.proofs.Refusals.{lines_refused, sizes_refused, told_end}
use Rattle.sst_tool.proofs.Taken.{told_lines}
use Rattle.sst_tool.specs.make.Refusing.{RefusesLines}
use Rattle.sst_tool.proofs.make.write.tables_of.Goals as goal

pub returns-in-Ok-clause-lines : goal.returns-in-Ok-clause-lines
returns-in-Ok-clause-lines g c =
    told_lines c.args.options.now (g.I.Read.remaining c.args.input.now) c.in_ok-writer.writer c.fill.new.writer c.in-Ok.count (λ r. r.0.items) (λ r. r.1) c.finish.result c.in_ok-writer.ensures.ok c.in-Ok.ensures.ok c.finish.ensures.ok

pub returns-in-Ok-clause-refused : goal.returns-in-Ok-clause-refused
returns-in-Ok-clause-refused g c =
    told_end c.finish.result c.args.options.now (g.I.Read.remaining c.args.input.now) c.in_ok-writer.writer c.fill.new.writer c.in-Ok.count c.in_ok-writer.ensures.ok c.in-Ok.ensures.ok c.finish.ensures.refused

pub returns-in-Err-clause-refused : goal.returns-in-Err-clause-refused
returns-in-Err-clause-refused g c =
    lines_refused c.args.options.now (g.I.Read.remaining c.args.input.now) c.in_ok-writer.writer c.in-Err.error c.in_ok-writer.ensures.ok c.in-Err.ensures.refused

pub returns-in_err-writer-clause-refused : goal.returns-in_err-writer-clause-refused
returns-in_err-writer-clause-refused g c =
    let input = g.I.Read.remaining c.args.input.now in
    let error = c.in_err-writer.field-0.0 in
    handed_on c.from_residual.result error (RefusesLines c.args.options.now input) c.from_residual.ensures.1
    (sizes_refused c.args.options.now input error c.in_err-writer.ensures.refused)

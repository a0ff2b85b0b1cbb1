use Rattle.sst_tool.specs.make.Sorting.{TellsLineOrder}
use Rattle.sst_tool.proofs.LineLemmas.{handed_on}
use Rattle.sst_tool.proofs.Refusals.{told_order}
use Rattle.sst_tool.proofs.make.write.write_entries.Goals as goal

pub returns-in_err-tables-clause-order : goal.returns-in_err-tables-clause-order
returns-in_err-tables-clause-order g c =
    let o = c.args.options.now in
    let input = g.I.Read.remaining c.args.input in
    let error = c.in_err-tables.field-0.0 in
    handed_on c.from_residual-in_err-tables.result error (TellsLineOrder o.format input) c.from_residual-in_err-tables.ensures.1
    (told_order o input error c.in_err-tables.ensures.refused)

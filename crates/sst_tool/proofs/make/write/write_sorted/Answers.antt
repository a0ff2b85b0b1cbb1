use Rattle.sst_tool.specs.make.Entries.{numbered}
use Rattle.sst_tool.specs.make.Faults.{StopsInOrder}
use Rattle.sst_tool.proofs.LineLemmas.{handed_on}
use Rattle.sst_tool.proofs.Sorting.{row_entries_sorted}
use Rattle.sst_tool.proofs.Taken.{reading_first, sorted_taken, told_among}
use Rattle.sst_tool.proofs.make.write.write_sorted.Goals as goal

pub returns-clause-ok : goal.returns-clause-ok
returns-clause-ok g c =
    let rows = c.in_ok-rows.rows.items in
    let sorted = c.sort_rows.new.rows.items in
    sorted_taken c.args.format (g.I.Read.remaining c.args.input.now) rows sorted c.args.writer.now c.write_rows.new.writer c.write_rows.result c.in_ok-rows.ensures.entries (row_entries_sorted rows sorted c.in_ok-sort_rows.ensures.order) (rw c.deref.ensures.value at c.write_rows.ensures.ok)

pub returns-clause-refused : goal.returns-clause-refused
returns-clause-refused g c =
    told_among c.write_rows.result c.args.format (g.I.Read.remaining c.args.input.now) (numbered c.in_ok-rows.rows.items) (numbered c.sort_rows.new.rows.items) c.args.writer.now c.in_ok-rows.ensures.rows c.in_ok-sort_rows.ensures.order (rw c.deref.ensures.value at c.write_rows.ensures.refused)

pub returns-in_err-rows-clause-refused : goal.returns-in_err-rows-clause-refused
returns-in_err-rows-clause-refused g c =
    let input = g.I.Read.remaining c.args.input.now in
    let error = c.in_err-rows.field-0.0 in
    handed_on c.from_residual.result error (StopsInOrder c.args.format input c.args.writer.now) c.from_residual.ensures.1
    (reading_first c.args.format input c.args.writer.now error c.in_err-rows.ensures.refused)

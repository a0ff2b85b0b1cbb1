use Rattle.sst_tool.proofs.Taken.{rows_more, stops_among}
use Rattle.sst_tool.proofs.make.entries.write_rows.Goals as goal

pub loop-row-preserved : goal.loop-row-preserved
loop-row-preserved g c =
    rows_more c.args.writer.now c.loop-row.writer c.write_entry.new.writer c.args.rows.now c.loop-row.row-index c.row-item.result c.loop-row-test.true c.row-item.is c.loop-row.invariant c.in_ok-write_entry.ensures.taken c.in_ok-write_entry.ensures.listed c.in_ok-write_entry.ensures.follows c.in_ok-write_entry.ensures.ok

pub returns-in_err-write_entry-clause-refused : goal.returns-in_err-write_entry-clause-refused
returns-in_err-write_entry-clause-refused g c =
    stops_among c.from_residual.result c.args.rows.now c.loop-row.row-index c.row-item.result c.args.writer.now c.loop-row.writer c.in_err-write_entry.field-0.0 c.loop-row-test.true c.row-item.is c.loop-row.invariant c.in_err-write_entry.ensures.refused c.from_residual.ensures.1

use Rattle.lsm_writers.proofs.StreamCalls.{ends_fails, ends_some}
use Rattle.lsm_writers.proofs.table_stream.end.Goals as goal

pub returns-in_ok-table-in-Ok-clause-ends : goal.returns-in_ok-table-in-Ok-clause-ends
returns-in_ok-table-in-Ok-clause-ends g c = ends_some c.args.writer.now c.in_ok-take.field-0 c.in_ok-take.ensures.value c.in-Ok.table c.in_ok-table-in-Ok.field-0 c.in_ok-table-in-Ok.was c.in-Ok.ensures.table

pub returns-in-Err-clause-ends : goal.returns-in-Err-clause-ends
returns-in-Err-clause-ends g c = ends_fails c.args.writer.now c.in_ok-take.field-0 c.in_ok-take.ensures.value c.in-Err.error c.in-Err.ensures.refused

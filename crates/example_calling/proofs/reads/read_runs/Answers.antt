use Rattle.sst_entries.specs.Point.{point}
use Rattle.lsm_runs.specs.SeveralRuns.{union_in}
use Rattle.lsm_runs.proofs.RunBack.{fails_refusal, memory_fails}
use Rattle.lsm_runs.proofs.Opening.{value_of}
use Rattle.example_calling.proofs.reads.read_runs.Goals as goal

pub returns-clause-list : goal.returns-clause-list
returns-clause-list g c lists held = record {
  point_is = value_of (point (union_in lists) c.args.key.now c.args.seqno) c.in_ok-found.found (c.in_ok-found.ensures.list lists held);
  range_is = c.in_ok-stream.ensures.list lists held;
}

pub returns-in_err-found-clause-fails : goal.returns-in_err-found-clause-fails
returns-in_err-found-clause-fails g c order =
    let r = c.from_residual in
    fails_refusal r.result c.in_err-found.field-0.0 _ r.ensures.1 (c.in_err-found.ensures.returned order)

pub returns-in_err-stream-clause-fails : goal.returns-in_err-stream-clause-fails
returns-in_err-stream-clause-fails g c order =
    let r = c.from_residual-in_err-stream in
    memory_fails r.result c.in_err-stream.field-0.0 _ r.ensures.1 c.in_err-stream.ensures.err

pub returns-clause-returned : goal.returns-clause-returned
returns-clause-returned g c order = c.in_ok-found.ensures.returned order

pub returns-clause-steps : goal.returns-clause-steps
returns-clause-steps g c order = c.in_ok-stream.ensures.steps order

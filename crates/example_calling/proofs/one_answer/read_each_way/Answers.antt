use Rattle.lsm_runs.proofs.RunWriting.{wants}
use Rattle.example_calling.proofs.one_answer.read_each_way.Goals as goal

pub returns-in_err-read-clause-err : goal.returns-in_err-read-clause-err
returns-in_err-read-clause-err g c es t some =
    let e = c.in_err-read.field-0.0 in
    wants c.from_residual.result e c.from_residual.ensures.1 (c.in_err-read.ensures.err es t some)

pub returns-clause-list : goal.returns-clause-list
returns-clause-list g c es t =
    let ranges = c.in_ok-ranges_of.ensures.list es t in
    (c.in_ok-read.ensures.list es t, ranges.0, ranges.1)

use Rattle.lsm_readers.proofs.VerifyEarly.{passes_first}
use Rattle.lsm_readers.proofs.Verifications.{refuses}
use Rattle.lsm_readers.proofs.verify.steps.step_stage.Goals as goal

pub returns-in_ok-stage-in-Filter-clause-goes : goal.returns-in_ok-stage-in-Filter-clause-goes
returns-in_ok-stage-in-Filter-clause-goes g c = λ no.
    rw c.in-Filter.is (c.in_ok-stage-in-Filter.ensures.goes c.args.left.now)

pub returns-in_err-stage-in-Filter-clause-early : goal.returns-in_err-stage-in-Filter-clause-early
returns-in_err-stage-in-Filter-clause-early g c =
    rw c.in-Filter.is (passes_first c.from_residual.result c.in_err-stage-in-Filter.field-0.0 _
    c.from_residual.ensures.1 (c.in_err-stage-in-Filter.ensures.early c.args.left.now))

pub returns-in_ok-stage-in-Filter-clause-early : goal.returns-in_ok-stage-in-Filter-clause-early
returns-in_ok-stage-in-Filter-clause-early g c =
    rw c.in-Filter.is (c.in_ok-stage-in-Filter.ensures.early c.args.left.now)

pub returns-in_err-stage-in-Filter-clause-next : goal.returns-in_err-stage-in-Filter-clause-next
returns-in_err-stage-in-Filter-clause-next g c =
    rw c.in-Filter.is (refuses c.from_residual.result c.in_err-stage-in-Filter.field-0.0 _
    c.from_residual.ensures.1 (c.in_err-stage-in-Filter.ensures.next c.args.left.now))

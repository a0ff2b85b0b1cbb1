use Rattle.std.proofs.Common.{◌∙◌, sym}
use Rattle.lsm_runs.proofs.ScanSteps.{over_item, shared_item}
use Rattle.lsm_runs.proofs.run_scanner.RunScannerIterator.next.Goals as goal

pub returns-in-Ok-true-clause-steps : goal.returns-in-Ok-true-clause-steps
returns-in-Ok-true-clause-steps g c = shared_item c.args.self.now c.advance.new.self c.share.new.self c.share.result c.in-Ok-true.ensures.goes (sym c.in-Ok-true.ensures.more ∙ c.in-Ok-true.field-0-test) c.share.ensures.ok c.share.ensures.err

pub returns-in-Ok-true-clause-goes : goal.returns-in-Ok-true-clause-goes
returns-in-Ok-true-clause-goes g c =
    let step = returns-in-Ok-true-clause-steps g c in
    record { on = λ _. (tt, tt, step.lowers); keeps = tt; rests = λ _. tt }

pub returns-in-Ok-false-clause-steps : goal.returns-in-Ok-false-clause-steps
returns-in-Ok-false-clause-steps g c = over_item c.args.self.now c.advance.new.self c.in-Ok-false.ensures.goes (sym c.in-Ok-false.field-0-test ∙ c.in-Ok-false.ensures.more)

use Rattle.lsm_runs.proofs.ScanSteps.{scan_item}
use Rattle.lsm_runs.proofs.run_scanner.advance_in.Goals as goal

pub returns-in-Some-clause-goes : goal.returns-in-Some-clause-goes
returns-in-Some-clause-goes g c = rw c.in-Some.is (scan_item _ _ _ c.advance.ensures.goes.next)

use Rattle.std.proofs.Common.{length}
use Rattle.lsm_runs.proofs.ScanSteps.{Reached}
use Rattle.lsm_runs.proofs.run_scanner.RunScanner.step.Given as goal

abbrev pub invariant-loop-self : goal.invariant-loop-self
invariant-loop-self g l = Reached l.fn.self l.self

abbrev pub decreases-loop-self : goal.decreases-loop-self
decreases-loop-self g l = length l.self.tables

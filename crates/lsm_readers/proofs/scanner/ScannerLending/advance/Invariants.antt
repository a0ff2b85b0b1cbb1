use Rattle.lsm_readers.proofs.Scans.{Reached}
use Rattle.lsm_readers.proofs.scanner.ScannerLending.advance.Given as goal

abbrev pub invariant-loop-self : goal.invariant-loop-self
invariant-loop-self g l = Reached l.fn.self l.self

abbrev pub decreases-loop-self : goal.decreases-loop-self
decreases-loop-self g l = l.self.blocks

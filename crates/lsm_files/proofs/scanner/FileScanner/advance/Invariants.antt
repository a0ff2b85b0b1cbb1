use Rattle.std.proofs.Common.{◌≡◌}
use Rattle.lsm_readers.specs.Scan.{scan_left}
use Rattle.lsm_files.specs.Reads.{AreKnown}
use Rattle.lsm_files.proofs.FileCounts.{Counted}
use Rattle.lsm_files.proofs.scanner.FileScanner.advance.Given as goal

abbrev pub invariant-loop-self : goal.invariant-loop-self
invariant-loop-self g l = record {
  left : AreKnown g.R.ReadAt.reads → scan_left l.self ≡ scan_left l.fn.self;
  counted : AreKnown g.R.ReadAt.reads → Counted l.fn.self l.self;
}

abbrev pub decreases-loop-self : goal.decreases-loop-self
decreases-loop-self g l = l.self.blocks

use Rattle.std.proofs.Common.{◌∙◌, sym}
use Rattle.lsm_readers.proofs.Scans.{progress, scans_over, scans_shared}
use Rattle.lsm_readers.proofs.scanner.ScannerIterator.next.Goals as goal

pub returns-in-Ok-true-clause-steps : goal.returns-in-Ok-true-clause-steps
returns-in-Ok-true-clause-steps g c = scans_shared c.args.self.now c.advance.new.self c.share.new.self c.share.result c.in-Ok-true.ensures.goes (sym c.in-Ok-true.ensures.more ∙ c.in-Ok-true.field-0-test) c.share.ensures.ok c.share.ensures.err

pub returns-in-Ok-true-clause-goes : goal.returns-in-Ok-true-clause-goes
returns-in-Ok-true-clause-goes g c = progress c.args.self.now c.share.new.self c.share.result (returns-in-Ok-true-clause-steps g c)

pub returns-in-Ok-false-clause-steps : goal.returns-in-Ok-false-clause-steps
returns-in-Ok-false-clause-steps g c = scans_over c.args.self.now c.advance.new.self c.in-Ok-false.ensures.goes (sym c.in-Ok-false.field-0-test ∙ c.in-Ok-false.ensures.more)

use Rattle.sst_c.proofs.scans.begin_scan.Goals as goal

-- what the handle holds is the scan that was begun
pub returns-in-Ok-clause-scans : goal.returns-in-Ok-clause-scans
returns-in-Ok-clause-scans c zero = rw (c.begin.ensures.begun zero) c.in-Ok.ensures.scans

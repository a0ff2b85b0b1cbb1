use Rattle.sst_c.proofs.runs_scan_open.begin_scan.Goals as goal

-- what the handle holds is the scan of the held runs
pub returns-in-Ok-clause-scans : goal.returns-in-Ok-clause-scans
returns-in-Ok-clause-scans c zero = rw (c.in-Runs.is, c.begin.ensures.begun zero) c.in-Ok.ensures.scans

use Rattle.lsm_runs.proofs.LentRuns.{lends_error, lends_run}
use Rattle.lsm_runs.proofs.run_reader.RunReaderLending.advance.Goals as goal

pub returns-in-Ok-clause-goes : goal.returns-in-Ok-clause-goes
returns-in-Ok-clause-goes g c = rw (← c.self.view_is) (lends_run c.self.inside.walk c.step.new.walk (record { takes = c.in-Ok.ensures.takes; there = c.in-Ok.ensures.there }))

pub returns-in-Ok-clause-lowers : goal.returns-in-Ok-clause-lowers
returns-in-Ok-clause-lowers g c = (returns-in-Ok-clause-goes g c).gives.lowers

pub returns-in-Err-clause-goes : goal.returns-in-Err-clause-goes
returns-in-Err-clause-goes g c = rw (c.end.ensures, ← c.self.view_is) (lends_error c.self.inside.walk c.step.new.walk c.in-Err.error (record { takes = c.in-Err.ensures.takes; there = c.in-Err.ensures.there }))

pub returns-in-Err-clause-lowers : goal.returns-in-Err-clause-lowers
returns-in-Err-clause-lowers g c = (returns-in-Err-clause-goes g c).gives.lowers

use Rattle.sst_c.proofs.merged.begin_merged.Goals as goal

-- what the handle holds is the range of the held runs
pub returns-in-Ok-clause-ranges : goal.returns-in-Ok-clause-ranges
returns-in-Ok-clause-ranges c zero = rw (c.in-Runs.is, c.begin.ensures.begun zero) c.in-Ok.ensures.ranges

use Rattle.lsm_runs.proofs.LentRuns.{none_lends, reader_lends}
use Rattle.lsm_runs.proofs.lending_reader.advance_in.Goals as goal

pub returns-in-Some-clause-lends : goal.returns-in-Some-clause-lends
returns-in-Some-clause-lends g c = rw c.in-Some.is (reader_lends _ _ _ c.advance.ensures.goes)

pub returns-in-None-clause-lends : goal.returns-in-None-clause-lends
returns-in-None-clause-lends g c = rw c.in-None.is none_lends

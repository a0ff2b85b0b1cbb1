-- Each list is cut into tables in one way; where they fit it is taken whole, and at target 0 a table has one key.
use Rattle.lsm_writers.proofs.OneCut.{cut_law, one_cut_law}
use Rattle.lsm_writers.proofs.Whole.{one_key_law, takes_law}
use Rattle.lsm_writers.proofs.multi_writer.tables_law.Goals as goal

pub returns-clause-cut : goal.returns-clause-cut
returns-clause-cut c = cut_law

pub returns-clause-one_cut : goal.returns-clause-one_cut
returns-clause-one_cut c = one_cut_law

pub returns-clause-takes : goal.returns-clause-takes
returns-clause-takes c = takes_law

pub returns-clause-one_key : goal.returns-clause-one_key
returns-clause-one_key c = one_key_law

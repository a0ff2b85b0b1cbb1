-- Key by key the keys are cut as their list is.
use Rattle.lsm_writers.proofs.SameOptions.{fault_same, given_more, given_none, writes_same}
use Rattle.lsm_writers.proofs.section.filter_writer.options_set_before_keys.Goals as goal

pub returns-clause-none : goal.returns-clause-none
returns-clause-none c = λ kind policy. given_none kind policy

pub returns-clause-more : goal.returns-clause-more
returns-clause-more c = λ kind policy keys key. given_more kind policy keys key

pub returns-clause-writes : goal.returns-clause-writes
returns-clause-writes c = λ kind policy keys before after count writes. writes_same kind policy keys before after count writes

pub returns-clause-fault : goal.returns-clause-fault
returns-clause-fault c = λ kind policy keys. fault_same kind policy keys

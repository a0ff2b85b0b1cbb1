-- A writer of either kind finishes as that kind does.
use Rattle.std.proofs.Common.{rules}
use Rattle.lsm_writers.proofs.section.filter_either.FilterWriterImplFilterWriter.finish.Goals as goal

pub returns-in-Full-clause-ok : goal.returns-in-Full-clause-ok
returns-in-Full-clause-ok g c = rw c.in-Full.is (search rules)

pub returns-in-Full-clause-refused : goal.returns-in-Full-clause-refused
returns-in-Full-clause-refused g c = rw c.in-Full.is (search rules)

pub returns-in-Full-clause-first : goal.returns-in-Full-clause-first
returns-in-Full-clause-first g c = rw c.in-Full.is (search rules)

pub returns-in-Full-clause-sized : goal.returns-in-Full-clause-sized
returns-in-Full-clause-sized g c = rw c.in-Full.is (search rules)

pub returns-in-Full-clause-idle : goal.returns-in-Full-clause-idle
returns-in-Full-clause-idle g c = rw c.in-Full.is (search rules)

pub returns-in-Partitioned-clause-ok : goal.returns-in-Partitioned-clause-ok
returns-in-Partitioned-clause-ok g c = rw c.in-Partitioned.is (search rules)

pub returns-in-Partitioned-clause-refused : goal.returns-in-Partitioned-clause-refused
returns-in-Partitioned-clause-refused g c = rw c.in-Partitioned.is (search rules)

pub returns-in-Partitioned-clause-first : goal.returns-in-Partitioned-clause-first
returns-in-Partitioned-clause-first g c = rw c.in-Partitioned.is (search rules)

pub returns-in-Partitioned-clause-sized : goal.returns-in-Partitioned-clause-sized
returns-in-Partitioned-clause-sized g c = rw c.in-Partitioned.is (search rules)

pub returns-in-Partitioned-clause-idle : goal.returns-in-Partitioned-clause-idle
returns-in-Partitioned-clause-idle g c = rw c.in-Partitioned.is (search rules)

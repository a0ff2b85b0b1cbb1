use Rattle.lsm_runs.proofs.TookList.{on_ok}
use Rattle.lsm_runs.proofs.compaction.compact.write_all.Goals as goal

pub returns-clause-written : goal.returns-clause-written
returns-clause-written g c d = c.finished.ensures.written c.args.writer d.list c.requires.fresh c.requires.next (on_ok c.write_each-took.result _ c.in_default.is (c.write_each-took.ensures.took d))

pub returns-clause-refused : goal.returns-clause-refused
returns-clause-refused g c d = c.finished.ensures.refused c.args.writer d.list (on_ok c.write_each-took.result _ c.in_default.is (c.write_each-took.ensures.took d))

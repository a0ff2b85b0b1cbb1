use Rattle.sst_c.proofs.Polling.{polls_on}
use Rattle.sst_c.proofs.compaction_steps.next_of.Goals as goal

pub returns-clause-can : goal.returns-clause-can
returns-clause-can g c = polls_on _ _ c.args.tables.now c.next.result c.next.new.self
    c.next.ensures.steps c.next.ensures.goes.keeps

use Rattle.lsm_runs.proofs.compaction.tables.stream_of.Goals as goal

pub returns-clause-starts : goal.returns-clause-starts
returns-clause-starts g c results yields stops memory =
    c.new.ensures.starts stops results c.requires (yields stops memory)

pub returns-clause-can : goal.returns-clause-can
returns-clause-can g c can = c.new.ensures.can c.requires can

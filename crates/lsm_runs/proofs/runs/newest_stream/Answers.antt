use Rattle.lsm_runs.proofs.runs.newest_stream.Goals as goal

pub returns-clause-yields : goal.returns-clause-yields
returns-clause-yields g c = c.newest_from_both_ends.ensures.yields c.args.sources.items c.in_ok-stream.ensures.starts

pub returns-clause-past : goal.returns-clause-past
returns-clause-past g c = c.newest_from_both_ends.ensures.past c.args.sources.items c.in_ok-stream.ensures.starts

pub returns-clause-can : goal.returns-clause-can
returns-clause-can g c = c.newest_from_both_ends.ensures.can c.args.sources.items c.in_ok-stream.ensures.starts

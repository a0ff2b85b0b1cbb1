use Rattle.lsm_runs.proofs.LentTogether.{lends_newest}
use Rattle.lsm_runs.proofs.lent_runs.lent_stream.Goals as goal

pub returns-clause-yields : goal.returns-clause-yields
returns-clause-yields g c = lends_newest g.L.Lending.advances c.args.sources.items _ c.in_ok-merger.merger _ _ c.in_ok-merger.ensures.yields c.new-2.ensures.newest c.in_ok-merger.ensures.places c.new-2.ensures.places

pub returns-clause-can : goal.returns-clause-can
returns-clause-can g c all = c.new-2.ensures.can (c.in_ok-merger.ensures.can all)

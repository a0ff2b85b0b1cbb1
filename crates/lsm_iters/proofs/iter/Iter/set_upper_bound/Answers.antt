use Rattle.lsm_iters.proofs.RangeLaws.{range_yields}
use Rattle.lsm_iters.proofs.iter.Iter.set_upper_bound.Goals as goal

pub returns-clause-yields : goal.returns-clause-yields
returns-clause-yields g c = range_yields _

use Rattle.lsm_iters.proofs.Laws.{demand_yields}
use Rattle.lsm_iters.proofs.block_index.volatile.VolatileBlockIndex.iter.Goals as goal

pub returns-clause-yields : goal.returns-clause-yields
returns-clause-yields g c = demand_yields _

use Rattle.lsm_iters.proofs.Laws.{span_yields}
use Rattle.lsm_iters.proofs.block_index.full.IterBlockIndexIter.seek_lower.Goals as goal

pub returns-clause-yields : goal.returns-clause-yields
returns-clause-yields g c = span_yields _

use Rattle.sst_blocks.proofs.SpanLemmas.{span_left}
use Rattle.lsm_iters.proofs.block_index.iter.OwnedIndexBlockIter.new.Goals as goal

pub returns-clause-yields : goal.returns-clause-yields
returns-clause-yields g c = span_left _

-- Each handle that comes leaves less.
use Rattle.lsm_iters.specs.block_index.Kinds.{left_of}
use Rattle.lsm_iters.specs.block_index.Left.{left_size}
use Rattle.sst_tool.proofs.show.facts.collect_places.Given as goal

abbrev pub decreases-loop-handle : goal.decreases-loop-handle
decreases-loop-handle g l = left_size (left_of l.handles)

use Rattle.std.proofs.Common.{length}
use Rattle.lsm_iters.specs.Blocks.{coming_blocks}
use Rattle.lsm_iters.proofs.Lent.{Comes}
use Rattle.lsm_iters.proofs.lending.step.Given as goal

abbrev pub invariant-loop-at : goal.invariant-loop-at
invariant-loop-at g l = Comes l.at l.fn.walk l.walk

abbrev pub decreases-loop-at : goal.decreases-loop-at
decreases-loop-at g l = length (coming_blocks l.walk.parts).parts

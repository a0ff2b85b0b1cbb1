use Rattle.std.specs.Prelude.{None}
use Rattle.lsm_iters.proofs.Refusals.{handed_on}
use Rattle.lsm_iters.proofs.block_index.kinds.BlockIndexIterImpl.keep_lower.Goals as goal

pub returns-in-Full-clause-sought : goal.returns-in-Full-clause-sought
returns-in-Full-clause-sought g c was = handed_on _ _ _ _ c.and.ensures (rw c.as_slice.ensures at (c.seek_lower.ensures.sought None (rw c.in-Full.is at was)))

pub returns-in_ok-clone-in-TwoLevel-clause-sought : goal.returns-in_ok-clone-in-TwoLevel-clause-sought
returns-in_ok-clone-in-TwoLevel-clause-sought g c was = rw c.in_ok-clone-in-TwoLevel.ensures.cases at (c.keep_lower-in-TwoLevel.ensures.sought None (rw c.in-TwoLevel.is at was))

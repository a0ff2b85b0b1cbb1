use Rattle.std.proofs.Common.{◌≤◌, length}
use Rattle.lsm_readers.proofs.batch.gather_blocks.Given as goal

abbrev pub invariant-loop-index : goal.invariant-loop-index
invariant-loop-index g l = length l.blocks.items ≤ l.index

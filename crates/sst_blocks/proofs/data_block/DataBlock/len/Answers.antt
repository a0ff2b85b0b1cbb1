use Rattle.std.proofs.Common.{arith}
use Rattle.sst_blocks.proofs.Entries.{block_len, block_strict}
use Rattle.sst_blocks.proofs.data_block.DataBlock.len.Goals as goal

pub returns-clause-value : goal.returns-clause-value
returns-clause-value g c = omega (arith, c.len.ensures, block_len _ _ _ _ c.self.invariant c.self.view_is)

pub returns-clause-strict : goal.returns-clause-strict
returns-clause-strict g c = block_strict _ _ _ _ c.self.invariant c.self.view_is

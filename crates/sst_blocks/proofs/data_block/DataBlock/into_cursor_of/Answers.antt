use Rattle.std.proofs.Common.{arith}
use Rattle.sst_blocks.proofs.Entries.{block_len}
use Rattle.sst_blocks.proofs.data_block.DataBlock.into_cursor_of.Goals as goal

pub new-requires-clause-within : goal.new-requires-clause-within
new-requires-clause-within g c = omega (arith, c.requires, block_len _ _ _ _ c.self.invariant c.self.view_is)

use Rattle.std.proofs.Common.{arith}
use Rattle.lsm_writers.proofs.Buffering.{buffer_len}
use Rattle.lsm_writers.proofs.writer.block_buffer.BlockBuffer.payload_len.Goals as goal

pub returns : goal.returns
returns g c = rw (← c.self.view_is) (omega (arith, c.len.ensures, c.self.inside.payload.ok.0, buffer_len _ _ _ c.self.invariant))

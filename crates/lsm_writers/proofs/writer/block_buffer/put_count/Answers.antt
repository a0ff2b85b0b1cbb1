use Rattle.sst_blocks.specs.Number.{le4}
use Rattle.lsm_writers.proofs.Buffering.{set_four}
use Rattle.lsm_writers.proofs.writer.block_buffer.put_count.Goals as goal

pub returns : goal.returns
unfolding le4
returns g c = rw c.to_le_bytes.ensures (set_four c.args.payload.now.items _ _ _ _ c.requires)

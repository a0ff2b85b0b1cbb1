use Rattle.std.proofs.Common.{refl}
use Rattle.sst_blocks.specs.Number.{le4, le8}
use Rattle.sst_blocks.proofs.data_block.encode.entry_head.Goals as goal

pub returns : goal.returns
unfolding le4 le8
returns c = rw (c.tag-tag.ensures, c.to_le_bytes.ensures, c.to_le_bytes-2.ensures, c.to_le_bytes-3.ensures) refl

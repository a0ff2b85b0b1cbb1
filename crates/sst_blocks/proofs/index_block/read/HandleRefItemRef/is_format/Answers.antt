use Rattle.sst_blocks.proofs.HandleLaws.{handles_advance, handles_format}
use Rattle.sst_blocks.proofs.index_block.read.HandleRefItemRef.is_format.Goals as goal

pub returns : goal.returns
returns c = record { law = handles_format c.args.version; advances = handles_advance c.args.version }

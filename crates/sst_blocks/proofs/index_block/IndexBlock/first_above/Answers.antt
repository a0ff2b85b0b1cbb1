use Rattle.std.proofs.Common.{◌∙◌}
use Rattle.sst_blocks.proofs.Reaching.{above_place}
use Rattle.sst_blocks.proofs.index_block.IndexBlock.first_above.Goals as goal

pub returns-clause-place : goal.returns-clause-place
returns-clause-place g c = c.first_reaching.ensures.place ∙ above_place c.args.self.now c.args.key.now

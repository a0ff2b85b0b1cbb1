use Rattle.sst_blocks.specs.Sections.{body_of}
use Rattle.sst_blocks.specs.Block.{load_result}
use Rattle.sst_blocks.specs.declared.block_type.BlockType.TheVariants.{Data}
use Rattle.sst_blocks.proofs.Asked.{visible_given}
use Rattle.sst_blocks.proofs.loads.CountedLoadBlocks.point_read.Goals as goal

pub returns-clause-visible : goal.returns-clause-visible
returns-clause-visible g c =
    let place = c.args.handle.now in
    visible_given (load_result (body_of c.self.inside.source.now) place.offset place.size Data) c.args.key.now c.args.seqno c.point_read.result c.point_read.ensures.returned

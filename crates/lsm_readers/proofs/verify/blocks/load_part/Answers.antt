use Rattle.sst_blocks.specs.declared.block_type.BlockType.TheVariants.{Index}
use Rattle.sst_blocks.specs.Sections.{body_of}
use Rattle.lsm_readers.proofs.VerifyEarly.{place_first}
use Rattle.lsm_readers.proofs.verify.blocks.load_part.Goals as goal

pub returns-in-Err-clause-early : goal.returns-in-Err-clause-early
returns-in-Err-clause-early g c =
    place_first (body_of c.args.source.now) c.args.section c.args.place.now Index c.offset.result.0
    c.in-Err.error c.unloaded.result c.offset.ensures c.unloaded.ensures c.in-Err.ensures.early

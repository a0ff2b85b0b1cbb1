use Rattle.sst_blocks.specs.Sections.{body_of}
use Rattle.sst_blocks.specs.declared.section.SectionName.TheVariants as section
use Rattle.sst_blocks.specs.declared.block_type.BlockType.TheVariants.{Filter}
use Rattle.lsm_readers.proofs.VerifyEarly.{place_first}
use Rattle.lsm_readers.proofs.verify.end.test_filter.Goals as goal

pub returns-in-Err-clause-early : goal.returns-in-Err-clause-early
returns-in-Err-clause-early g c =
    place_first (body_of c.args.source.now) section.Filter c.args.place.now Filter
    c.offset.result.0 c.in-Err.error c.unloaded.result c.offset.ensures c.unloaded.ensures
    c.in-Err.ensures.first

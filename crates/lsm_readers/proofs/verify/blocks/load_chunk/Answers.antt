use Rattle.sst_blocks.specs.Sections.{body_of}
use Rattle.sst_blocks.specs.declared.section.SectionName.TheVariants as section
use Rattle.sst_blocks.specs.declared.block_type.BlockType.TheVariants.{Data}
use Rattle.sst_blocks.specs.Block.{place_fault}
use Rattle.sst_blocks.proofs.LoadLemmas.{data_holds, load_kind}
use Rattle.lsm_readers.proofs.VerifyEarly.{loaded_first, place_first}
use Rattle.lsm_readers.proofs.verify.blocks.load_chunk.Goals as goal

pub new-block-requires : goal.new-block-requires
new-block-requires g c =
    let place = c.args.handle.now in
    data_holds _ (load_kind (body_of c.args.source.now) place.offset place.size Data c.in-Ok.block
    c.in-Ok.ensures.returned)

pub returns-in-Err-clause-early : goal.returns-in-Err-clause-early
returns-in-Err-clause-early g c =
    place_first (body_of c.args.source.now) section.Data c.args.handle.now Data
    c.offset-at.result.0 c.in-Err.error c.unloaded.result c.offset-at.ensures c.unloaded.ensures
    c.in-Err.ensures.first

pub returns-then-is_empty-clause-early : goal.returns-then-is_empty-clause-early
returns-then-is_empty-clause-early g c = λ f h.
    let place = c.args.handle.now in
    absurd (loaded_first section.Data place.offset
    (place_fault (body_of c.args.source.now) place.offset place.size Data)
    c.in-Ok.ensures.first f h)

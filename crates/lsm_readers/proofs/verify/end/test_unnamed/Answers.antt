use Rattle.sst_blocks.specs.Sections.{body_of}
use Rattle.sst_blocks.specs.declared.block_type.BlockType.TheVariants.{Data}
use Rattle.sst_blocks.specs.Block.{position_fault}
use Rattle.lsm_readers.proofs.VerifyEarly.{position_want, refused_want}
use Rattle.lsm_readers.proofs.verify.end.test_unnamed.Goals as goal

pub returns-in-Err-OutOfMemory-clause-calm : goal.returns-in-Err-OutOfMemory-clause-calm
returns-in-Err-OutOfMemory-clause-calm g c = λ e h.
    let body = body_of c.args.source.now in
    let refusal = c.in-Err-OutOfMemory in
    absurd (refused_want (position_fault body 0 Data) (position_want body 0 Data) refusal.field-0 e h
    (refusal.ensures.first e h) refusal.field-0-is)

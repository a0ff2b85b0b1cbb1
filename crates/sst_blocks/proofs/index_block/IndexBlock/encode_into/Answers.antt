use Rattle.sst_blocks.specs.Handles.{AreSpellableHandles}
use Rattle.sst_blocks.specs.declared.version.TableVersion.TheVariants.{V4}
use Rattle.sst_blocks.proofs.Faults.{on_ok}
use Rattle.sst_blocks.proofs.HandleLaws.{handles_read}
use Rattle.sst_blocks.proofs.index_block.IndexBlock.encode_into.Goals as goal

pub returns-clause-reads : goal.returns-clause-reads
returns-clause-reads g c =
    let hs = c.args.handles.now in
    on_ok (AreSpellableHandles V4 hs) _ c.encode.result c.encode.ensures.fit (λ fit. handles_read V4 hs fit c.requires)

use Rattle.sst_blocks.specs.Payload.{AreSpellable}
use Rattle.sst_blocks.specs.declared.version.TableVersion.TheVariants.{V4}
use Rattle.sst_blocks.proofs.Entries.{entries_read}
use Rattle.sst_blocks.proofs.Faults.{on_ok}
use Rattle.sst_blocks.proofs.data_block.DataBlock.encode_into.Goals as goal

pub returns-clause-reads : goal.returns-clause-reads
returns-clause-reads g c =
    let es = c.args.items.now in
    on_ok (AreSpellable V4 es) _ c.encode.result c.encode.ensures.fit (λ fit. entries_read V4 es fit c.requires)

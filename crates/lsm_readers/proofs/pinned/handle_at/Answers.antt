use Rattle.sst_blocks.specs.Asked.{place_for}
use Rattle.sst_blocks.specs.declared.block_type.BlockType.TheVariants.{Index}
use Rattle.lsm_readers.proofs.AskedReads.{asked}
use Rattle.lsm_readers.proofs.pinned.handle_at.Goals as goal

pub returns-clause-read : goal.returns-clause-read
returns-clause-read g c known =
    let asks = c.find.ensures in
    asked g.S.LoadBlocks.access (place_for c.args.key.now c.args.seqno) (g.S.LoadBlocks.body c.args.source.now) c.args.handle.now Index _ _ c.find.result asks.counted (asks.returned known) asks.first

use Rattle.sst_blocks.specs.Asked.{maybe_in}
use Rattle.sst_blocks.specs.declared.block_type.BlockType.TheVariants.{Filter}
use Rattle.lsm_readers.proofs.AskedReads.{asked}
use Rattle.lsm_readers.proofs.point.block_admits.Goals as goal

pub returns-clause-read : goal.returns-clause-read
returns-clause-read g c known =
    let asks = c.maybe_contains_hash.ensures in
    asked g.S.LoadBlocks.access (maybe_in c.args.key_hash) (g.S.LoadBlocks.body c.args.source.now) c.args.handle.now Filter _ _ c.maybe_contains_hash.result asks.counted (asks.returned known) asks.first

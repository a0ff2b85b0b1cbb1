use Rattle.sst_blocks.proofs.MarkLemmas.{there_items, there_sum}
use Rattle.sst_blocks.proofs.source.BlockSource.cache_grammar.Goals as goal

pub cache-requires : goal.cache-requires
cache-requires g c =
    let p = c.args.payload.now in
    let placed = c.requires.placed in
    (there_sum c.args.self.now p placed.headed c.requires.valid.sum, there_items c.args.self.now c.args.kind p placed c.requires.items)

use Rattle.sst_blocks.proofs.MarkLemmas.{there_sum}
use Rattle.sst_blocks.proofs.source.BlockSource.cache_sum.Goals as goal

pub cache-requires : goal.cache-requires
cache-requires g c =
    let headed = rw c.in-Some.is at c.requires.headed in
    let sum = rw c.in-Some.is at c.requires.sum in
    there_sum c.args.self.now c.in-Some.payload headed (sum c.if-has_sum.true)

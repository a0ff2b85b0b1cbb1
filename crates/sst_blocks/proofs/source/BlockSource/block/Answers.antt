use Rattle.std.proofs.Common.{slice_range}
use Rattle.sst_blocks.specs.Placed.{payload_in}
use Rattle.sst_blocks.specs.Sections.{body_of}
use Rattle.sst_blocks.proofs.LoadLemmas.{given_items}
use Rattle.sst_blocks.proofs.source.BlockSource.block.Goals as goal

pub cache_grammar-requires-clause-items : goal.cache_grammar-requires-clause-items
cache_grammar-requires-clause-items g c =
    let p = c.args.payload.now in
    given_items p.header.version p.header.checksum c.args.kind (payload_in (body_of c.args.self.now) p) c.in_ok-block.block c.in_ok-block.ensures.returned

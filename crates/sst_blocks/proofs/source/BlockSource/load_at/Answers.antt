use Rattle.std.proofs.Common.{◌+◌, ◌^◌}
use Rattle.sst_blocks.specs.Placed.{payload_in}
use Rattle.sst_blocks.specs.Sections.{body_of}
use Rattle.sst_blocks.proofs.LoadLemmas.{loaded_within}
use Rattle.sst_blocks.proofs.source.BlockSource.load_at.Goals as goal

pub returns-clause-within : goal.returns-clause-within
returns-clause-within g c =
    let p = c.in_ok-payload.payload in
    loaded_within p.header.version p.header.checksum c.args.kind (payload_in (body_of c.args.self.now) p) (c.args.position + 24) (2 ^ 63) c.block.result c.block.ensures.returned c.in_ok-payload.ensures.within

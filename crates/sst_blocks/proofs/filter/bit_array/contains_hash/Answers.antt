use Rattle.sst_blocks.proofs.Probes.{payload_admits}
use Rattle.sst_blocks.proofs.filter.bit_array.contains_hash.Goals as goal

pub returns-clause-yes : goal.returns-clause-yes
returns-clause-yes c = λ hashes of here.
    payload_admits c.args.payload.now c.args.hash hashes c.admits.result c.requires.some c.admits.ensures of here

use Rattle.sst_blocks.proofs.Probes.{gains_hash}
use Rattle.sst_blocks.proofs.filter.builder.Builder.set_with_hash.Goals as goal

pub returns-clause-hashes : goal.returns-clause-hashes
returns-clause-hashes g c = λ hashes of. gains_hash _ _ c.args.hash hashes c.gain.ensures of

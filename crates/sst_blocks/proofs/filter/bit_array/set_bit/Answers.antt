use Rattle.sst_blocks.proofs.Probes.{bit_gained}
use Rattle.sst_blocks.proofs.filter.bit_array.set_bit.Goals as goal

pub returns-clause-bits : goal.returns-clause-bits
returns-clause-bits c = λ p _. bit_gained c.args.bits.now c.args.place c.requires p

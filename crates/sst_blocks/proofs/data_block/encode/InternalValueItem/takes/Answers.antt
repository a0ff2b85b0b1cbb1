use Rattle.std.proofs.Common.{arith}
use Rattle.sst_blocks.specs.declared.version.TableVersion.TheVariants.{V4}
use Rattle.sst_blocks.proofs.Entries.{length-spelled}
use Rattle.sst_blocks.proofs.data_block.encode.InternalValueItem.takes.Goals as goal

pub returns : goal.returns
returns g c = λ e. (omega (arith, length-spelled V4 e), omega arith)

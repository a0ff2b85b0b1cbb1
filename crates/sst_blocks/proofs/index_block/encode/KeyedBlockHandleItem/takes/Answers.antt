use Rattle.std.proofs.Common.{arith}
use Rattle.sst_blocks.specs.declared.version.TableVersion.TheVariants.{V4}
use Rattle.sst_blocks.proofs.HandleLaws.{length-handle_spelled}
use Rattle.sst_blocks.proofs.index_block.encode.KeyedBlockHandleItem.takes.Goals as goal

pub returns : goal.returns
returns g c = λ h. (omega (arith, length-handle_spelled V4 h), omega arith)

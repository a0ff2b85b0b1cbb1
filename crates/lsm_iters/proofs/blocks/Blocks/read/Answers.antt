use Rattle.std.proofs.Common.{sym, subst}
use Rattle.sst_blocks.specs.declared.block_type.BlockType.TheVariants.{Data}
use Rattle.sst_blocks.specs.Starts.{HoldsEntries}
use Rattle.lsm_iters.proofs.Loads.{OfKind, load_of_kind}
use Rattle.lsm_iters.proofs.blocks.Blocks.read.Goals as goal

pub new-requires : goal.new-requires
new-requires g c = subst HoldsEntries (sym (subst (OfKind Data) c.in_ok-block.ensures.returned (load_of_kind Data _ _ _))) tt

use Rattle.std.proofs.Common.{subst}
use Rattle.sst_blocks.specs.declared.block_type.BlockType.TheVariants.{Index}
use Rattle.lsm_iters.proofs.Loads.{OfKind, load_of_kind}
use Rattle.lsm_iters.proofs.block_index.part.load_handles.Goals as goal

pub new-requires : goal.new-requires
new-requires g c = subst (OfKind Index) c.in_ok-block.ensures.returned (load_of_kind Index _ _ _)

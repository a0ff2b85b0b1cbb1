use Rattle.std.proofs.Common.{◌≡◌, take}
use Rattle.sst_blocks.specs.Bounds.{bound_of}
use Rattle.sst_blocks.proofs.item.block_bound.Given as goal

abbrev pub invariant-loop-item : goal.invariant-loop-item
invariant-loop-item g l = l.bound ≡ bound_of g.T.Item.bound (take l.item-index l.items)

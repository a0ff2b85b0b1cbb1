use Rattle.std.proofs.Common.{◌≡◌, drop, take}
use Rattle.std.specs.List.{AllByRecursion}
use Rattle.sst_blocks.specs.Bounds.{bound_of}
use Rattle.sst_blocks.specs.Encoding.{first_fault}
use Rattle.sst_blocks.proofs.item.block_len.Given as goal

abbrev pub invariant-loop-item : goal.invariant-loop-item
invariant-loop-item g l = record {
  fine : first_fault g.T.Item.fault_or l.items ≡ first_fault g.T.Item.fault_or
      (drop l.item-index l.items);
  short : AllByRecursion g.T.Item.Short (take l.item-index l.items);
  sum : l.bound ≡ bound_of g.T.Item.bound (take l.item-index l.items);
}

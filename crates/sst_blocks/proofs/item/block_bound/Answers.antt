use Rattle.sst_blocks.proofs.Grown.{one_more_summed, all_summed}
use Rattle.sst_blocks.proofs.item.block_bound.Goals as goal

pub loop-item-preserved : goal.loop-item-preserved
loop-item-preserved g c = one_more_summed g.T.Item.bound 28 _ _ c.item-item.result _ _ c.loop-item-test.true c.item-item.is c.loop-item.invariant c.added_to-bound.ensures

pub returns : goal.returns
returns g c = all_summed g.T.Item.bound 28 _ _ _ c.loop-item-test.false c.loop-item.invariant

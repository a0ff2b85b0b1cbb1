use Rattle.lsm_iters.proofs.TwoLevels.{two_levels}
use Rattle.lsm_iters.proofs.block_index.two_level.Iter.answer.Goals as goal

pub returns : goal.returns
returns g c =
    rw (← c.self.view_is) (two_levels c.args.at c.self.inside.walk c.step.new.self c.step.result c.step.ensures.walk)

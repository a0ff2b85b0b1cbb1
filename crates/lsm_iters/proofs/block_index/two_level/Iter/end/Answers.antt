use Rattle.lsm_iters.proofs.TwoLevels.{walk_over}
use Rattle.lsm_iters.proofs.block_index.two_level.Iter.end.Goals as goal

pub returns : goal.returns
returns g c = rw (← c.self.view_is) (walk_over c.self.inside.walk c.end.new.self c.end.ensures)

use Rattle.lsm_iters.proofs.Taken.{span_place}
use Rattle.lsm_iters.proofs.block_index.full.Iter.take_place.Goals as goal

pub returns : goal.returns
returns g c = rw (← c.self.view_is) (span_place c.args.at _ c.step_place.new.self c.step_place.result c.step_place.ensures.step c.step_place.ensures.list)

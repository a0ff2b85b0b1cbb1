use Rattle.lsm_iters.proofs.RangeLaws.{range_step}
use Rattle.lsm_iters.proofs.iter.IterEnds.step.Goals as goal

pub returns : goal.returns
returns g c = range_step c.args.at c.args.self.now c.answer.new.self c.answer.result c.answer.ensures

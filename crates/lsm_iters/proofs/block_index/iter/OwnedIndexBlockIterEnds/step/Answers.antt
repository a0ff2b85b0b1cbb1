use Rattle.sst_entries.specs.declared.stream.Direction.TheVariants.{Back, Front}
use Rattle.lsm_iters.proofs.AtEnds.{span_step}
use Rattle.lsm_iters.proofs.block_index.iter.OwnedIndexBlockIterEnds.step.Goals as goal

pub returns-in-Front : goal.returns-in-Front
returns-in-Front g c = rw c.in-Front.is (span_step Front c.args.self.now c.next.new.self c.next.result c.next.ensures.steps)

pub returns-in-Back : goal.returns-in-Back
returns-in-Back g c = rw c.in-Back.is (span_step Back c.args.self.now c.next_back.new.self c.next_back.result c.next_back.ensures.steps)

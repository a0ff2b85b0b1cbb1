use Rattle.sst_entries.specs.Stream.{back_of}
use Rattle.lsm_iters.specs.Range.{back_next}
use Rattle.lsm_iters.proofs.RangeEnds.{back_shortens}
use Rattle.lsm_iters.proofs.RangeLaws.{progress}
use Rattle.lsm_iters.proofs.iter.IterDoubleEndedIterator.next_back.Goals as goal

pub returns-clause-goes : goal.returns-clause-goes
returns-clause-goes g c =
    progress back_of back_shortens back_next c.args.self.now c.answer.result c.answer.new.self c.answer.ensures

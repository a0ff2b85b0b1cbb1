use Rattle.sst_entries.specs.Stream.{front_of}
use Rattle.lsm_iters.specs.Range.{front_next}
use Rattle.lsm_iters.proofs.RangeEnds.{front_shortens}
use Rattle.lsm_iters.proofs.RangeLaws.{progress}
use Rattle.lsm_iters.proofs.iter.IterIterator.next.Goals as goal

pub returns-clause-goes : goal.returns-clause-goes
returns-clause-goes g c =
    progress front_of front_shortens front_next c.args.self.now c.answer.result c.answer.new.self c.answer.ensures

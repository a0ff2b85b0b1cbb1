use Rattle.sst_entries.specs.Stream.{back_of}
use Rattle.lsm_iters.specs.block_index.Left.{two_level_left}
use Rattle.lsm_iters.proofs.Going.{back_shortens, progress}
use Rattle.lsm_iters.proofs.block_index.two_level.IterDoubleEndedIterator.next_back.Goals as goal

pub returns-clause-goes : goal.returns-clause-goes
returns-clause-goes g c = progress two_level_left back_of back_shortens _ _ _ c.answer.ensures.gives

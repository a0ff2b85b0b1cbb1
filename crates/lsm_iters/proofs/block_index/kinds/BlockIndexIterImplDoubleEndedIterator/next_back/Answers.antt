use Rattle.sst_entries.specs.Stream.{back_of}
use Rattle.lsm_iters.specs.block_index.Kinds.{left_of}
use Rattle.lsm_iters.proofs.Going.{progress, back_shortens}
use Rattle.lsm_iters.proofs.KindLaws.{kind_back}
use Rattle.lsm_iters.proofs.block_index.kinds.BlockIndexIterImplDoubleEndedIterator.next_back.Goals as goal

pub returns-clause-goes : goal.returns-clause-goes
returns-clause-goes g c = progress left_of back_of back_shortens _ _ _ (kind_back c.args.self.now c.step_back.result c.step_back.new.self c.step_back.ensures)

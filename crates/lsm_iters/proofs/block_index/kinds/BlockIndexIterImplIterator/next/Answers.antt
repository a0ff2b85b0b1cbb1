use Rattle.sst_entries.specs.Stream.{front_of}
use Rattle.lsm_iters.specs.block_index.Kinds.{left_of}
use Rattle.lsm_iters.proofs.Going.{progress, front_shortens}
use Rattle.lsm_iters.proofs.KindLaws.{kind_front}
use Rattle.lsm_iters.proofs.block_index.kinds.BlockIndexIterImplIterator.next.Goals as goal

pub returns-clause-goes : goal.returns-clause-goes
returns-clause-goes g c = progress left_of front_of front_shortens _ _ _ (kind_front c.args.self.now c.step.result c.step.new.self c.step.ensures)

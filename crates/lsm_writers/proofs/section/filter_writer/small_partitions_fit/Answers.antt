-- What waits is not full, and one key more makes it little larger.
use Rattle.lsm_writers.proofs.SmallParts.{small_parts}
use Rattle.lsm_writers.proofs.section.filter_writer.small_partitions_fit.Goals as goal

pub returns : goal.returns
returns c = λ kind policy keys key few small. small_parts kind policy keys key few small

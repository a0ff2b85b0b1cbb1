-- No handles are strict.
use Rattle.lsm_writers.proofs.Strict.{strict_none}
use Rattle.lsm_writers.proofs.section.index_full.FullIndexWriter.new.Goals as goal

pub of-requires : goal.of-requires
of-requires g c = rw c.new.ensures.handles strict_none

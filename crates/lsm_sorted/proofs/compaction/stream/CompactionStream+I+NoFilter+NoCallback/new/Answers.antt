use Rattle.std.proofs.Common.{refl}
use Rattle.lsm_sorted.proofs.compaction.stream.«CompactionStream+I+NoFilter+NoCallback».new.Goals as goal

pub returns-clause-compacts : goal.returns-clause-compacts
returns-clause-compacts g c stops xs d = record {
  rest = xs;
  source = record { lists = rw (c.new.ensures.fresh, c.new.ensures.iter) d };
  parts = rw c.new.ensures.front refl;
}

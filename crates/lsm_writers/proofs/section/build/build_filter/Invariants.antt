-- The filter has the bits of the hashes so far.
use Rattle.std.proofs.Common.{length, take}
use Rattle.lsm_writers.proofs.Building.{Building}
use Rattle.lsm_writers.proofs.section.build.build_filter.Given as goal

abbrev pub invariant-loop-hash : goal.invariant-loop-hash
invariant-loop-hash g l = Building l.policy (length l.hashes) (take l.hash-index l.hashes) l.filter

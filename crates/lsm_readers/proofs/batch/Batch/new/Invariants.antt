use Rattle.std.proofs.Common.{◌≡◌, replicate}
use Rattle.std.specs.Prelude.{None}
use Rattle.lsm_readers.proofs.batch.Batch.new.Given as goal

abbrev pub invariant-loop : goal.invariant-loop
invariant-loop g l = l.found.items ≡ replicate l.counter None

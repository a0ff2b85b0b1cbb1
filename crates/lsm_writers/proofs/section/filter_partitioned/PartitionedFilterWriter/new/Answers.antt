-- Nothing was cut, and nothing waits.
use Rattle.std.proofs.Common.{refl}
use Rattle.lsm_writers.proofs.Holding.{holds_none}
use Rattle.lsm_writers.proofs.RisingLaws.{strict_none}
use Rattle.std.specs.Prelude.{None}
use Rattle.lsm_writers.proofs.section.filter_partitioned.PartitionedFilterWriter.new.Goals as goal

pub invariant_of-result : goal.invariant_of-result
invariant_of-result g c = rw c.new.ensures.items (strict_none None)

pub returns-clause-holds : goal.returns-clause-holds
returns-clause-holds g c = holds_none _ c.new.ensures.items refl c.new-2.ensures.items refl

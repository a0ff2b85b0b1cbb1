-- The option changes nothing that is held.
use Rattle.std.proofs.Common.{ap}
use Rattle.lsm_writers.specs.section.Held.{CutParts}
use Rattle.lsm_writers.proofs.Holding.{holds_again}
use Rattle.lsm_writers.proofs.section.filter_partitioned.PartitionedFilterWriterFilterWriter.use_partition_size.Goals as goal

pub returns-clause-holds : goal.returns-clause-holds
returns-clause-holds g c = λ given h.
    holds_again c.args.self _ given h (ap (λ (w : CutParts). w.parts) c.self.view_is) (ap (λ (w : CutParts). w.bound) c.self.view_is)
    (ap (λ (w : CutParts). w.hashes) c.self.view_is) (ap (λ (w : CutParts). w.last) c.self.view_is)

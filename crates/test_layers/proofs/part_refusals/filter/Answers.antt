-- A new writer has no keys.
use Rattle.lsm_writers.specs.section.FilterEither.{HoldsBy}
use Rattle.test_layers.proofs.KeyLemmas.{rises_above_none}
use Rattle.test_layers.proofs.part_refusals.filter.Goals as goal

pub register_key-refusals-requires-clause-rises : goal.register_key-refusals-requires-clause-rises
register_key-refusals-requires-clause-rises g c = rises_above_none (HoldsBy c.in_ok-writer.writer) c.from_static.result c.in_ok-writer.ensures

use Rattle.sst_entries.specs.Stream.{answer_stops}
use Rattle.sst_entries.proofs.VecSource.{vec_yields}
use Rattle.sst_entries.proofs.stream.source_of.Goals as goal

pub returns : goal.returns
returns g c stops = rw (← c.into_iter.ensures.rest) (vec_yields (answer_stops stops) c.into_iter.result)

use Rattle.sst_entries.proofs.FrontLemmas.{yields_in_front, can_in_front}
use Rattle.sst_entries.proofs.stream.from_the_front.Goals as goal

pub returns-clause-yields : goal.returns-clause-yields
returns-clause-yields g c stops xs yields = yields_in_front _ _ _ _ xs yields

pub returns-clause-can : goal.returns-clause-can
returns-clause-can g c can = can_in_front _ _ _ _ _ can

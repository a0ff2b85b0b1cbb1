use Rattle.lsm_readers.proofs.BatchReads.{gives_same}
use Rattle.lsm_readers.proofs.many.many_in.Goals as goal

pub returns-clause-returned : goal.returns-clause-returned
returns-clause-returned g c = gives_same (λ found. found.items) c.read_all.result _ c.read_all.ensures.returned

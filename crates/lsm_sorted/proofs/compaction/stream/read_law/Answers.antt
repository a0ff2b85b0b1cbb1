use Rattle.lsm_sorted.proofs.ReadLemmas.{reads_alike}
use Rattle.lsm_sorted.proofs.KeptLemmas.{stays_strict}
use Rattle.lsm_sorted.proofs.PartLemmas.{reads_alike_of_part}
use Rattle.lsm_sorted.proofs.compaction.stream.read_law.Goals as goal

pub returns-clause-reads : goal.returns-clause-reads
returns-clause-reads c = reads_alike

pub returns-clause-strict : goal.returns-clause-strict
returns-clause-strict c = stays_strict

pub returns-clause-part : goal.returns-clause-part
returns-clause-part c = reads_alike_of_part

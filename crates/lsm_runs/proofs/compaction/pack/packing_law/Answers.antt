use Rattle.lsm_runs.proofs.Packing.{packed_alike}
use Rattle.lsm_runs.proofs.PackingTies.{kept_alike}
use Rattle.lsm_runs.proofs.OneList.{one_way}
use Rattle.lsm_runs.proofs.compaction.pack.packing_law.Goals as goal

pub returns-clause-reads : goal.returns-clause-reads
returns-clause-reads c = packed_alike

pub returns-clause-kept : goal.returns-clause-kept
returns-clause-kept c = kept_alike

pub returns-clause-held : goal.returns-clause-held
returns-clause-held c = one_way

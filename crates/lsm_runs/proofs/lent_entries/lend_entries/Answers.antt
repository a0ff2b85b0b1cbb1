use Rattle.lsm_runs.proofs.LentSources.{list_can, list_yields}
use Rattle.lsm_runs.proofs.lent_entries.lend_entries.Goals as goal

pub returns-clause-list : goal.returns-clause-list
returns-clause-list g c = list_yields _

pub returns-clause-can : goal.returns-clause-can
returns-clause-can g c = list_can _

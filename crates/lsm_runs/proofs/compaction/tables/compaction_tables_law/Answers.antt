use Rattle.lsm_runs.proofs.StreamedTables.{streamed_law}
use Rattle.lsm_runs.proofs.compaction.tables.compaction_tables_law.Goals as goal

pub returns : goal.returns
returns g c = streamed_law _

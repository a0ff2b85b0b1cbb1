use Rattle.lsm_writers.proofs.TakenTables.{begun_law, finished_law, taken_law, written_law}
use Rattle.lsm_writers.proofs.multi_writer.taking_law.Goals as goal

pub returns-clause-begun : goal.returns-clause-begun
returns-clause-begun g c = begun_law _

pub returns-clause-taken : goal.returns-clause-taken
returns-clause-taken g c = taken_law _

pub returns-clause-finished : goal.returns-clause-finished
returns-clause-finished g c = finished_law _

pub returns-clause-written : goal.returns-clause-written
returns-clause-written g c = written_law _

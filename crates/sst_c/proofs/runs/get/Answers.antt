use Rattle.std.proofs.Common.{List}
use Rattle.lsm_readers.specs.Words.{OpenTable}
use Rattle.sst_c.specs.PointReads.{GetsFromRuns}
use Rattle.sst_c.specs.Reported.{found_at}
use Rattle.sst_c.specs.declared.held.What.{What}
use Rattle.sst_c.proofs.Placing.{at_runs}
use Rattle.sst_c.proofs.runs.get.Goals as goal

-- the runs that are read are those that are held
pub returns-in-Runs-clause-gets : goal.returns-in-Runs-clause-gets
returns-in-Runs-clause-gets c are =
    let P : What → List (List OpenTable) → Type 0 = λ w rs.
    GetsFromRuns rs c.args.key.now c.args.seqno c.get_in.result (found_at c.get_in.new.found w) in
    at_runs P c.args.held.now.what c.in-Runs.runs c.in-Runs.is c.get_in.ensures

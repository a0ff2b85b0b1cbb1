use Rattle.lsm_readers.specs.Words.{OpenTable}
use Rattle.sst_c.proofs.Placing.{at_table}
use Rattle.sst_c.proofs.tables.get.Goals as goal
use Rattle.sst_c.specs.PointReads.{GetsFromTable}
use Rattle.sst_c.specs.Reported.{found_at}
use Rattle.sst_c.specs.declared.held.What.{What}

-- the table that is read is the one that is held
pub returns-in-Table-clause-gets : goal.returns-in-Table-clause-gets
returns-in-Table-clause-gets c t same =
    let P : What → OpenTable → Type 0 = λ w u.
    GetsFromTable u c.args.key.now c.args.seqno c.get_in.result (found_at c.get_in.new.found w) in
    at_table P c.args.held.now.what c.in-Table.table t c.in-Table.is same c.get_in.ensures

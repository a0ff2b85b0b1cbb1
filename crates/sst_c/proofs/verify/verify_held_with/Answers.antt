use Rattle.std.proofs.Common.{subst}
use Rattle.lsm_readers.specs.point.Table.{OpenTable}
use Rattle.sst_c.specs.Verify.{VerifiesTableWith}
use Rattle.sst_c.proofs.Verifying.{same_table}
use Rattle.sst_c.proofs.verify.verify_held_with.Goals as goal

-- the table that is verified is the one that is held
pub returns-in-Table-clause-verifies : goal.returns-in-Table-clause-verifies
returns-in-Table-clause-verifies c t same =
    let P : OpenTable → Type 0 = λ u. VerifiesTableWith u c.args.checksum c.verify_with.result c.verify_with.new.returned in
    subst P (same_table c.args.held.now.what c.in-Table.table t c.in-Table.is same) c.verify_with.ensures

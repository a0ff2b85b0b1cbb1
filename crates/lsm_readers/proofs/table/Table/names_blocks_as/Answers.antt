use Rattle.std.proofs.Common.{subst}
use Rattle.lsm_readers.specs.point.Table.{IsOpen}
use Rattle.lsm_readers.proofs.OneIndex.{names_blocks, report_alike}
use Rattle.lsm_readers.proofs.table.Table.names_blocks_as.Goals as goal

pub returns-clause-alike : goal.returns-clause-alike
returns-clause-alike g c es t u alike =
    let held = subst IsOpen c.self.view_is c.self.invariant in
    let also = subst IsOpen c.other.view_is c.other.invariant in
    report_alike c.args.self.now c.args.other.now held also es t u alike

pub returns-clause-names : goal.returns-clause-names
returns-clause-names g c es t = names_blocks c.args.self.now (subst IsOpen c.self.view_is c.self.invariant) es t

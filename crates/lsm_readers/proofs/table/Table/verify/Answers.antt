use Rattle.lsm_readers.proofs.VerifyTables.{all_complete, all_first, all_valid}
use Rattle.lsm_readers.proofs.table.Table.verify.Goals as goal

pub returns-clause-sound : goal.returns-clause-sound
returns-clause-sound g c =
    let all = c.read_all.ensures in
    all_valid c.args.self.now all.open c.read_all.result all.returned

pub returns-clause-complete : goal.returns-clause-complete
returns-clause-complete g c es is =
    let all = c.read_all.ensures in
    all_complete c.args.self.now all.open c.read_all.result all.returned es is

pub returns-clause-first : goal.returns-clause-first
returns-clause-first g c = all_first c.args.self.now c.read_all.result c.read_all.ensures.returned

use Rattle.sst_c.proofs.Verifying.{verifies_table}
use Rattle.sst_c.proofs.verify.verify.Goals as goal

pub returns : goal.returns
returns c =
    let is = c.verify.ensures in
    verifies_table c.args.table.now c.verify.result c.tell.result c.tell.new.returned c.tell.ensures.code c.tell.ensures.returned
    is.returned is.early is.first is.sound is.complete

use Rattle.lsm_readers.proofs.ByKey.{memory_alone, plain_is}
use Rattle.sst_entries.specs.Point.{point}
use Rattle.lsm_readers.specs.point.Answer.{lift}
use Rattle.lsm_readers.proofs.table.Table.get_by_key.Goals as goal

pub returns-clause-plain : goal.returns-clause-plain
returns-clause-plain g c es is zero =
    let t = c.args.self.now in
    plain_is es t.global_seqno c.args.key.now c.args.seqno c.get.result zero (c.get.ensures.list es is)

pub returns-clause-err : goal.returns-clause-err
returns-clause-err g c es is =
    let t = c.args.self.now in
    memory_alone (point (lift es t.global_seqno) c.args.key.now c.args.seqno) c.get.result (c.get.ensures.list es is)

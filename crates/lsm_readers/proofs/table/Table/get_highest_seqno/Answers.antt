use Rattle.std.proofs.Common.{rules}
use Rattle.std.specs.Arc.{arc_value}
use Rattle.lsm_readers.specs.point.Table.{table_of}
use Rattle.lsm_readers.proofs.Recovered.{highest_fits}
use Rattle.lsm_readers.proofs.table.Table.get_highest_seqno.Goals as goal

pub overflow_add-result : goal.overflow_add-result
overflow_add-result g c =
    let f = highest_fits (table_of c.self.inside.source (arc_value c.self.inside.inner)) c.self.invariant.recovered in
    let d = c.deref.ensures in
    let e = c.deref-2.ensures in
    rw (d, e) (search rules)

use Rattle.example_store.proofs.Own.{bytes_of}
use Rattle.example_store.proofs.Shares.{one_mapped}
use Rattle.example_store.proofs.store.close.bytes_of.Goals as goal

pub loop-table-preserved : goal.loop-table-preserved
loop-table-preserved g c = rw c.in_ok-push.ensures.items
    (one_mapped c.args.tables.now c.loop-table.table-index c.table-item.result c.loop-table-test.true c.table-item.is bytes_of c.loop-table.files.items c.in_ok-bytes.field-0 c.in_ok-bytes.ensures.bytes c.loop-table.invariant)

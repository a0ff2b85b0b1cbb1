use Rattle.std.proofs.Common.{sym, subst}
use Rattle.sst_blocks.specs.table.Table.{IsTable}
use Rattle.lsm_writers.specs.Writing.{IsWritable}
use Rattle.test_reads.proofs.StoredTable.{new_alone, new_writable}
use Rattle.test_reads.proofs.runs.stored.new_bytes.Goals as goal

pub write_list-requires : goal.write_list-requires
write_list-requires c =
    let items = new_alone c.push.new.self.items c.new-items.result.items c.from_components.result c.in_ok-key.key c.in_ok-value.value c.in_ok-push.ensures.items c.new-items.ensures.items c.from_components.ensures c.in_ok-key.ensures.ok c.in_ok-value.ensures.ok in
    subst IsWritable (sym items) new_writable

pub returns-in-Some : goal.returns-in-Some
returns-in-Some c =
    let items = new_alone c.push.new.self.items c.new-items.result.items c.from_components.result c.in_ok-key.key c.in_ok-value.value c.in_ok-push.ensures.items c.new-items.ensures.items c.from_components.ensures c.in_ok-key.ensures.ok c.in_ok-value.ensures.ok in
    let f = rw c.in-Some.is at c.in_ok-table.ensures.table in
    subst (λ es. IsTable c.in-Some.table.bytes es) items f.table

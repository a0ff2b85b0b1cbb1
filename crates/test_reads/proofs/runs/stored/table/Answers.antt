use Rattle.test_reads.proofs.StoredTable.{holds}
use Rattle.test_reads.proofs.runs.stored.table.Goals as goal

pub returns : goal.returns
returns c es is = holds c.in_ok-table.table c.args.bytes es c.tells_its_list.ensures.open c.in_ok-table.ensures.bytes c.in_ok-table.ensures.number is

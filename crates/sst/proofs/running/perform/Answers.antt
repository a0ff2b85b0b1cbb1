use Rattle.sst.proofs.Passing.{passed_on}
use Rattle.sst.proofs.running.perform.Goals as goal

pub returns-in-Write-clause-refused : goal.returns-in-Write-clause-refused
returns-in-Write-clause-refused g c =
    rw (c.in-Write.is) (passed_on _ c.write.result 0 c.and.result c.and.ensures c.write.ensures.refused)

pub returns-in-Compact-clause-refused : goal.returns-in-Compact-clause-refused
returns-in-Compact-clause-refused g c =
    rw (c.in-Compact.is)
    (passed_on _ c.compact.result 0 c.and-in-Compact.result c.and-in-Compact.ensures c.compact.ensures.refused)

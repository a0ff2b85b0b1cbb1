use Rattle.sst_c.proofs.Ranging.{range_held}
use Rattle.sst_c.proofs.ranges.begin.Goals as goal

-- the table that is read is the one that is held
pub returns-clause-ranges : goal.returns-clause-ranges
returns-clause-ranges c zero =
    let a = c.args in
    range_held a.lower_kind a.lower.now a.upper_kind a.upper.now c.begin_within.new.range.boxed.value
    a.held.now.what c.in-Table.table c.in-Table.is (c.begin_within.ensures.ranges zero)

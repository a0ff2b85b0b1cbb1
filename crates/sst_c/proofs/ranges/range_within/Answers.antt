use Rattle.sst_c.specs.What.{decode_bound}
use Rattle.sst_c.proofs.Ranging.{all_ranges}
use Rattle.sst_c.proofs.ranges.range_within.Goals as goal

-- it lies within the bounds that were made
pub returns-clause-ranges : goal.returns-clause-ranges
returns-clause-ranges c =
    all_ranges c.args.table.now _ _ (decode_bound c.args.lower_kind c.args.lower.now)
    (decode_bound c.args.upper_kind c.args.upper.now) c.range.result c.in_ok-lower.ensures.lower
    c.in_ok-lower.ensures.upper c.range.ensures.is c.range.ensures.list

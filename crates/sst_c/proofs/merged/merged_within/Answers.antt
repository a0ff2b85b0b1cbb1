use Rattle.sst_c.specs.What.{decode_bound}
use Rattle.sst_c.proofs.MergedLists.{ranges_same}
use Rattle.sst_c.proofs.merged.merged_within.Goals as goal

-- it lies within the bounds that were made
pub returns-clause-ranges : goal.returns-clause-ranges
returns-clause-ranges c =
    ranges_same c.args.seqno c.args.runs.now c.in_ok-range.range.0 c.in_ok-range.range.1
    (decode_bound c.args.lower_kind c.args.lower.now) (decode_bound c.args.upper_kind c.args.upper.now)
    c.in_ok-range.ensures.lower c.in_ok-range.ensures.upper _ _ _ _ c.newest_within.result
    c.newest_within.ensures.ranges

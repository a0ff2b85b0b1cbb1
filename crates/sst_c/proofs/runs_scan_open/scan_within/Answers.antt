use Rattle.sst_c.specs.What.{decode_bound}
use Rattle.sst_c.proofs.MergedLists.{scans_same}
use Rattle.sst_c.proofs.runs_scan_open.scan_within.Goals as goal

-- it lies within the bounds that were made
pub returns-clause-scans : goal.returns-clause-scans
returns-clause-scans c =
    scans_same c.args.seqno c.args.runs.now c.in_ok-range.range.0 c.in_ok-range.range.1
    (decode_bound c.args.lower_kind c.args.lower.now) (decode_bound c.args.upper_kind c.args.upper.now)
    c.in_ok-range.ensures.lower c.in_ok-range.ensures.upper _ c.newest_within.result
    c.newest_within.ensures.scans

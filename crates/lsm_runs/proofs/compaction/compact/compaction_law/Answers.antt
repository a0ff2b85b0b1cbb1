use Rattle.lsm_runs.specs.SeveralRuns.{union_in}
use Rattle.lsm_runs.proofs.Replaced.{points, side_by_side, strict_after, union_up}
use Rattle.lsm_runs.proofs.ShownRanges.{ranges_by_points}
use Rattle.lsm_runs.proofs.StaysWritable.{writable_after}
use Rattle.lsm_runs.proofs.compaction.compact.compaction_law.Goals as goal

pub returns-clause-points : goal.returns-clause-points
returns-clause-points c rules part rest before after h = points rules part rest before after h c.read_law.ensures.part

pub returns-clause-ranges : goal.returns-clause-ranges
returns-clause-ranges c rules part rest before after h low high =
    ranges_by_points low high (union_in after) (union_in before) (union_up after) (union_up before) rules.watermark (points rules part rest before after h c.read_law.ensures.part)

pub returns-clause-strict : goal.returns-clause-strict
returns-clause-strict c rules part rest before after h = strict_after rules part rest before after h

pub returns-clause-writable : goal.returns-clause-writable
returns-clause-writable c rules part rest before after h writable = writable_after rules part rest before after h writable

pub returns-clause-side_by_side : goal.returns-clause-side_by_side
returns-clause-side_by_side c = side_by_side

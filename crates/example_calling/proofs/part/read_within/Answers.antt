use Rattle.std.proofs.Common.{◌++◌}
use Rattle.lsm_sorted.proofs.PackLemmas.{if_ok}
use Rattle.lsm_runs.specs.SeveralRuns.{union_in}
use Rattle.example_calling.proofs.PartRuns.{same_bounds}
use Rattle.example_calling.proofs.part.read_within.Goals as goal

pub returns-clause-list : goal.returns-clause-list
returns-clause-list g c fs ps bs h =
    let a = c.args in
    if_ok c.read_side_by_side.result
    (λ read is. same_bounds _ _ a.key.now a.seqno c.in_ok-share.field-0 a.range.now.0 c.in_ok-share-2.field-0 a.range.now.1 (union_in (fs ++ (ps ++ bs))) read c.in_ok-share.ensures c.in_ok-share-2.ensures is)
    (c.read_side_by_side.ensures.list fs ps bs h)

use Rattle.std.proofs.Common.{subst, List}
use Rattle.lsm_writers.specs.declared.writer.FinishedTable.{FinishedTable}
use Rattle.lsm_runs.specs.compaction.OpenedBy.{AreOpenedBy}
use Rattle.lsm_runs.proofs.OpenedRuns.{put_by}
use Rattle.lsm_runs.proofs.compaction.runs_with.open_outcome.Goals as goal

pub returns-in_ok-open_all-in-Tables-clause-opened : goal.returns-in_ok-open_all-in-Tables-clause-opened
returns-in_ok-open_all-in-Tables-clause-opened g c =
    let ts = c.in_ok-open_all-in-Tables.field-0.items in
    rw c.in-Tables.is
    (put_by c.args.how.now c.in-Tables.tables.items ts (subst (λ (x : List (FinishedTable _)). AreOpenedBy c.args.how.now x ts) c.deref.ensures.value c.in_ok-open_all-in-Tables.ensures.opened) c.new.result c.new.ensures)

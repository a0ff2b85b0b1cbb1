use Rattle.lsm_runs.proofs.OpenedRuns.{FitSoFar, OpenedSoFar}
use Rattle.lsm_runs.proofs.compaction.open_options.open_all.Given as goal

abbrev pub invariant-loop-table : goal.invariant-loop-table
invariant-loop-table g l = record {
  opened : OpenedSoFar l.how l.tables l.table-index l.opened.items;
  fits : FitSoFar l.how l.tables l.table-index;
}

use Rattle.std.proofs.Common.{length}
use Rattle.std.specs.Prelude.{min}
use Rattle.std.specs.Arc.{arc_value}
use Rattle.lsm_runs.specs.SeveralRuns.{LoadsEach}
use Rattle.lsm_runs.proofs.RunReads.{AreSmall, ReadsOn, every_run}
use Rattle.lsm_runs.proofs.runs.get_runs_counted.Given as goal

abbrev pub invariant-loop-run : goal.invariant-loop-run
invariant-loop-run g l = record {
  reads : ReadsOn arc_value (every_run l.key l.seqno) l.runs l.run-index l.found l.opened;
  small : AreSmall l.opened;
  few : LoadsEach (min l.run-index (length l.runs)) l.opened;
}

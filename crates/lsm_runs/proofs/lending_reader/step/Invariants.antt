use Rattle.std.proofs.Common.{length}
use Rattle.lsm_run_parts.specs.Tables.{coming_tables}
use Rattle.lsm_runs.proofs.LentRuns.{Comes}
use Rattle.lsm_runs.proofs.lending_reader.step.Given as goal

abbrev pub invariant-loop-walk : goal.invariant-loop-walk
invariant-loop-walk g l = Comes l.fn.walk l.walk

abbrev pub decreases-loop-walk : goal.decreases-loop-walk
decreases-loop-walk g l = length (coming_tables l.walk.parts).parts

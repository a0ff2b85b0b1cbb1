use Rattle.std.proofs.Common.{◌≡◌}
use Rattle.sst_entries.specs.Stream.{CanYield, nowhere}
use Rattle.lsm_writers.specs.Streamed.{took_each}
use Rattle.lsm_writers.specs.Tables.{all_written}
use Rattle.lsm_runs.proofs.Observing.{Observing}
use Rattle.lsm_runs.proofs.compaction.any_runs.write_while_observed.Given as goal

abbrev pub invariant-loop-source : goal.invariant-loop-source
invariant-loop-source g l = record {
  can : CanYield g.L.Lending.advances nowhere g.L.Lending.can_advance g.L.Lending.can_advance
      l.source;
  observing : Observing g.L.Lending.advances g.O.CompactionObserver.says l.fn.writer l.fn.source
      l.fn.observer l.writer l.source l.progress l.observer;
  took : l.writer ≡ took_each l.fn.writer (all_written l.writer);
}

abbrev pub decreases-loop-source : goal.decreases-loop-source
decreases-loop-source g l = g.L.Lending.left l.source

use Rattle.std.proofs.Common.{◌≡◌}
use Rattle.sst_entries.specs.Stream.{CanYield, nowhere}
use Rattle.lsm_writers.specs.Streamed.{took_each}
use Rattle.lsm_writers.specs.Tables.{all_written}
use Rattle.lsm_runs.specs.compaction.Compacted.{YieldsWritable}
use Rattle.lsm_runs.proofs.AnyTaken.{Taking}
use Rattle.lsm_runs.proofs.WritesOn.{WritesOn}
use Rattle.lsm_runs.proofs.compaction.compact.write_each.Given as goal

abbrev pub invariant-loop-source : goal.invariant-loop-source
invariant-loop-source g l = record {
  can : CanYield g.L.Lending.advances nowhere g.L.Lending.can_advance g.L.Lending.can_advance
      l.source;
  taking : Taking l.fn.writer l.writer;
  took : l.writer ≡ took_each l.fn.writer (all_written l.writer);
  writes : (d : YieldsWritable g.L.Lending.advances l.fn.source)
      → WritesOn g.L.Lending.advances l.fn.writer d.list l.writer l.source;
}

abbrev pub decreases-loop-source : goal.decreases-loop-source
decreases-loop-source g l = g.L.Lending.left l.source

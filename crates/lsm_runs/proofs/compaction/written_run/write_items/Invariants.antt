use Rattle.std.proofs.Common.{◌≡◌, ◌++◌}
use Rattle.lsm_writers.specs.Streamed.{took_each}
use Rattle.lsm_writers.specs.Tables.{all_written}
use Rattle.lsm_runs.specs.compaction.Chain.{writes_fault}
use Rattle.lsm_runs.proofs.AnyTaken.{Taking}
use Rattle.lsm_runs.proofs.compaction.written_run.write_items.Given as goal

abbrev pub invariant-loop-item : goal.invariant-loop-item
invariant-loop-item g l = record {
  taking : Taking l.fn.writer l.writer;
  took : l.writer ≡ took_each l.fn.writer (all_written l.writer);
  fault : writes_fault l.fn.writer l.fn.items.items
      ≡ writes_fault l.writer l.item-iterator.rest.items;
  listed : all_written l.writer ≡ l.yielded;
  whole : l.fn.items.items ≡ l.yielded ++ l.item-iterator.rest.items;
}

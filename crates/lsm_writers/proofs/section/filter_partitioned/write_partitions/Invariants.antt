-- The parts so far are written.
use Rattle.lsm_writers.proofs.Sections.{PartsWritten}
use Rattle.lsm_writers.proofs.section.filter_partitioned.write_partitions.Given as goal

abbrev pub invariant-loop-partition : goal.invariant-loop-partition
invariant-loop-partition g l = PartsWritten l.initial.writer l.writer l.yielded l.handles.items

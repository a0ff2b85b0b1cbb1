-- The handles so far are cut.
use Rattle.lsm_writers.proofs.SectionCutting.{Cut}
use Rattle.lsm_writers.proofs.section.index_partitioned.write_partitions.Given as goal

abbrev pub invariant-loop-i : goal.invariant-loop-i
invariant-loop-i g l = Cut l.partition_size l.handles l.fn.writer l.writer l.tops.items l.start l.i
    l.size

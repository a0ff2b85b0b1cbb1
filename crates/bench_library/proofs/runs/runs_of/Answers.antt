use Rattle.std.proofs.Common.{subst}
use Rattle.lsm_writers.specs.Writing.{IsWritable}
use Rattle.lsm_runs.proofs.ListRuns.{compactable}
use Rattle.bench_library.proofs.runs.runs_of.Goals as goal

pub loop-len-preserved : goal.loop-len-preserved
loop-len-preserved c = c.in_ok-add_run.ensures c.loop-len.invariant

pub returns-then-is_writable : goal.returns-then-is_writable
returns-then-is_writable c =
    compactable _ c.loop-len.all.items c.put_in_order.new.all.items c.loop-len.invariant c.put_in_order.ensures
    (subst IsWritable c.deref.ensures.value (c.is_writable.ensures.0 c.if-is_writable.true))

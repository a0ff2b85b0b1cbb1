use Rattle.std.specs.Prelude.{map}
use Rattle.std.specs.Arc.{arc_value}
use Rattle.lsm_runs.specs.compaction.ListRuns.{HaveAll}
use Rattle.bench_library.proofs.runs.runs_of.Given as goal

abbrev pub invariant-loop-len : goal.invariant-loop-len
invariant-loop-len l = HaveAll l.all.items (map arc_value l.runs.items)

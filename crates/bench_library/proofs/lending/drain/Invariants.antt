use Rattle.sst_entries.specs.Stream.{CanYield, nowhere}
use Rattle.bench_library.proofs.lending.drain.Given as goal

abbrev pub invariant-loop-source : goal.invariant-loop-source
invariant-loop-source g l = CanYield g.L.Lending.advances nowhere g.L.Lending.can_advance
    g.L.Lending.can_advance l.source

abbrev pub decreases-loop-source : goal.decreases-loop-source
decreases-loop-source g l = g.L.Lending.left l.source

use Rattle.sst_entries.specs.Stream.{CanYield, nowhere}
use Rattle.bench_library.proofs.lending.drain_front.Given as goal

abbrev pub invariant-loop : goal.invariant-loop
invariant-loop g l = CanYield g.L.Lending.advances nowhere g.L.Lending.can_advance
    g.L.Lending.can_advance l.source

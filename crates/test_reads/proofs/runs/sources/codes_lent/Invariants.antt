use Rattle.sst_entries.specs.Stream.{CanYield, nowhere}
use Rattle.test_reads.proofs.runs.sources.codes_lent.Given as goal

abbrev pub invariant-loop : goal.invariant-loop
invariant-loop g l =
    CanYield g.L.Lending.advances nowhere g.L.Lending.can_advance g.L.Lending.can_advance l.items

use Rattle.sst_entries.specs.Stream.{CanYield, nowhere}
use Rattle.test_layers.proofs.sorted.words.lends_so.Given as goal

abbrev pub invariant-loop-word : goal.invariant-loop-word
invariant-loop-word g l = CanYield g.L.Lending.advances nowhere g.L.Lending.can_advance
    g.L.Lending.can_advance l.source

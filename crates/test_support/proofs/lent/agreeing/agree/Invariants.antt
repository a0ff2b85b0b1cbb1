use Rattle.sst_entries.specs.Stream.{CanYield, nowhere}
use Rattle.test_support.proofs.lent.agreeing.agree.Given as goal

abbrev pub invariant-loop : goal.invariant-loop
invariant-loop g l = record {
  by_value : CanYield g.I.Iterator.next_gives nowhere g.I.Iterator.can_next g.I.Iterator.can_next
      l.by_value;
  lending : CanYield g.L.Lending.advances nowhere g.L.Lending.can_advance g.L.Lending.can_advance
      l.lending;
}

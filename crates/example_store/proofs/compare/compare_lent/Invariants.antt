use Rattle.lsm_tables.specs.Words.{CanLend}
use Rattle.example_store.proofs.compare.compare_lent.Given as goal

abbrev pub invariant-loop-items : goal.invariant-loop-items
invariant-loop-items g l = CanLend g.L.Lending.advances g.L.Lending.can_advance l.items

abbrev pub decreases-loop-items : goal.decreases-loop-items
decreases-loop-items g l = g.L.Lending.left l.items

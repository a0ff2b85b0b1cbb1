use Rattle.std.proofs.Common.{List}
use Rattle.lsm_tables.specs.Words.{CanLend, Entry, YieldsList}
use Rattle.lsm_tables.proofs.TableLaws.{nowhere}
use Rattle.example_store.proofs.Order.{ComesOn}
use Rattle.example_store.proofs.store.order.comes_in_order.Given as goal

abbrev pub invariant-loop-last : goal.invariant-loop-last
invariant-loop-last g l =
    CanLend g.L.Lending.advances g.L.Lending.can_advance l.items
    × ((es : List Entry) → YieldsList g.L.Lending.advances nowhere es l.fn.items
    → ComesOn g.L.Lending.advances es l.last l.items)

abbrev pub decreases-loop-last : goal.decreases-loop-last
decreases-loop-last g l = g.L.Lending.left l.items

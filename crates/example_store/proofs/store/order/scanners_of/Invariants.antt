use Rattle.std.proofs.Common.{take}
use Rattle.std.specs.Prelude.{map}
use Rattle.std.specs.Arc.{arc_value}
use Rattle.std.specs.List.{AllZip}
use Rattle.example_store.proofs.Order.{ScansRun}
use Rattle.example_store.proofs.store.order.scanners_of.Given as goal

abbrev pub invariant-loop-run : goal.invariant-loop-run
invariant-loop-run g l =
    AllZip ScansRun l.scanners.items (map arc_value (take l.run-index l.runs))

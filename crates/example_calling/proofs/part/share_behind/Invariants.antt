use Rattle.std.proofs.Common.{◌≡◌, ◌++◌, take}
use Rattle.std.specs.Prelude.{map}
use Rattle.std.specs.Arc.{arc_value}
use Rattle.example_calling.proofs.part.share_behind.Given as goal

abbrev pub invariant-loop-run : goal.invariant-loop-run
invariant-loop-run g l = map arc_value l.shared.items ≡ map arc_value l.initial.shared.items
    ++ map arc_value (take l.run-index l.runs)

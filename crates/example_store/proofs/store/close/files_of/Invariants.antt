use Rattle.std.proofs.Common.{◌≡◌, take}
use Rattle.std.specs.Prelude.{map}
use Rattle.std.specs.Arc.{arc_value}
use Rattle.example_store.proofs.Own.{bytes_of}
use Rattle.example_store.proofs.store.close.files_of.Given as goal

abbrev pub invariant-loop-run : goal.invariant-loop-run
invariant-loop-run g l =
    map (λ run. run.items) l.files.items
    ≡ map (λ run. map bytes_of (arc_value run)) (take l.run-index l.runs)

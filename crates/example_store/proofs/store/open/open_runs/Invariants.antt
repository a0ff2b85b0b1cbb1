use Rattle.std.proofs.Common.{◌≡◌, take}
use Rattle.std.specs.Prelude.{map}
use Rattle.std.specs.Arc.{arc_value}
use Rattle.std.specs.List.{AllByRecursion}
use Rattle.example_store.specs.Story.{IsOwnRun}
use Rattle.example_store.proofs.Own.{bytes_of}
use Rattle.example_store.proofs.store.open.open_runs.Given as goal

abbrev pub invariant-loop-run : goal.invariant-loop-run
invariant-loop-run g l = record {
  own : AllByRecursion (IsOwnRun l.next) (map arc_value l.runs.items);
  made : map (map bytes_of) (map arc_value l.runs.items)
      ≡ map (λ run. run.items) (take l.run-index l.files);
}

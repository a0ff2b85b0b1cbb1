use Rattle.std.proofs.Common.{◌≡◌, drop}
use Rattle.std.specs.Prelude.{map}
use Rattle.std.specs.Arc.{arc_value}
use Rattle.sst_script.specs.Runs.{repeats, ForRuns}
use Rattle.sst_script.proofs.runs.is_repeated.Given as goal

abbrev pub invariant-loop-item : goal.invariant-loop-item
invariant-loop-item g l =
    ForRuns (map arc_value l.runs)
    (λ rs. repeats rs l.items ≡ repeats rs (drop l.item-index l.items))

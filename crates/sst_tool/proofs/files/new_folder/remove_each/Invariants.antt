use Rattle.std.proofs.Common.{◌≡◌, take}
use Rattle.std.specs.Prelude.{map, string_bytes}
use Rattle.sst_tool.specs.files.Steps.{then_done}
use Rattle.sst_tool.specs.files.Steps.Step.{Removed}
use Rattle.sst_tool.proofs.files.new_folder.remove_each.Given as goal

abbrev pub invariant-loop-path : goal.invariant-loop-path
invariant-loop-path g l =
    g.P.Place.done l.place
    ≡ then_done (g.P.Place.done l.fn.place)
    (map (λ path. Removed (string_bytes path)) (take l.path-index l.paths))

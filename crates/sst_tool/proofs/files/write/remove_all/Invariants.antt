use Rattle.std.proofs.Common.{◌≡◌, take}
use Rattle.sst_tool.specs.files.Placed.{removing}
use Rattle.sst_tool.specs.files.Standing.{standing_in}
use Rattle.sst_tool.specs.files.Steps.{then_done}
use Rattle.sst_tool.proofs.files.write.remove_all.Given as goal

abbrev pub invariant-loop-beside : goal.invariant-loop-beside
invariant-loop-beside g l =
    g.P.Place.done l.place
    ≡ then_done (g.P.Place.done l.fn.place) (removing (standing_in (take l.beside-index l.written)))

use Rattle.std.proofs.Common.{◌≡◌, take}
use Rattle.sst_tool.specs.files.Placed.{renaming}
use Rattle.sst_tool.specs.files.Standing.{standing_in}
use Rattle.sst_tool.specs.files.Steps.{then_done}
use Rattle.sst_tool.proofs.files.write.rename_each.Given as goal

abbrev pub invariant-loop-at : goal.invariant-loop-at
invariant-loop-at g l =
    g.P.Place.done l.place
    ≡ then_done (g.P.Place.done l.fn.place) (renaming (standing_in (take l.at l.written)))

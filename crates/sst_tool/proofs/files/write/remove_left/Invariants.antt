use Rattle.sst_tool.specs.files.Placed.{IsBesideOne}
use Rattle.sst_tool.specs.files.Standing.{standing_in}
use Rattle.sst_tool.specs.files.Steps.{OnlyDoes, Removes}
use Rattle.sst_tool.proofs.files.write.remove_left.Given as goal

abbrev pub invariant-loop-beside : goal.invariant-loop-beside
invariant-loop-beside g l =
    OnlyDoes (Removes (IsBesideOne (standing_in l.written))) (g.P.Place.done l.fn.place)
    (g.P.Place.done l.place)

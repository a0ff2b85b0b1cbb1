use Rattle.sst_tool.specs.files.Files.{IsBeside}
use Rattle.sst_tool.specs.files.Steps.{OnlyDoes, Removes}
use Rattle.sst_tool.proofs.files.left.remove_files.Given as goal

abbrev pub invariant-loop-number : goal.invariant-loop-number
invariant-loop-number g l =
    OnlyDoes (Removes (IsBeside l.path)) (g.P.Place.done l.fn.place) (g.P.Place.done l.place)

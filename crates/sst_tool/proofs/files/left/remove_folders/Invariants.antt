use Rattle.sst_tool.specs.files.Files.{IsBeside}
use Rattle.sst_tool.specs.files.NewFolders.{Clears}
use Rattle.sst_tool.specs.files.Steps.{OnlyDoes}
use Rattle.sst_tool.proofs.files.left.remove_folders.Given as goal

abbrev pub invariant-loop-number : goal.invariant-loop-number
invariant-loop-number g l =
    OnlyDoes (Clears (IsBeside l.stem)) (g.P.Place.done l.fn.place) (g.P.Place.done l.place)

-- The runs so far are those of the files so far.
use Rattle.std.proofs.Common.{◌≡◌, map, take}
use Rattle.std.specs.Arc.{arc_value}
use Rattle.sst_tool.specs.show.Files.{runs_in}
use Rattle.sst_tool.proofs.show.merged.runs_of.Given as goal

abbrev pub invariant-loop-file : goal.invariant-loop-file
invariant-loop-file g l = map arc_value l.runs.items ≡ runs_in (take l.file-index l.files)

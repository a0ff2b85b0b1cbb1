use Rattle.std.proofs.Common.{take}
use Rattle.std.specs.List.{AllByRecursion}
use Rattle.sst_tool.specs.make.Scanned.{ReadsWhole}
use Rattle.sst_tool.proofs.make.compact.blame.Given as goal

abbrev pub invariant-loop-place : goal.invariant-loop-place
invariant-loop-place g l = AllByRecursion ReadsWhole (take l.place l.tables)

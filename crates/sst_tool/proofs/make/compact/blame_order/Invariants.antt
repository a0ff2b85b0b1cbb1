use Rattle.std.proofs.Common.{take}
use Rattle.std.specs.List.{AllByRecursion}
use Rattle.sst_tool.specs.make.Scanned.{ComesInOrder}
use Rattle.sst_tool.proofs.make.compact.blame_order.Given as goal

abbrev pub invariant-loop-place : goal.invariant-loop-place
invariant-loop-place g l = AllByRecursion ComesInOrder (take l.place l.tables)

use Rattle.std.proofs.Common.{take}
use Rattle.lsm_sorted.specs.version.Packing.{AreTablesWellFormed}
use Rattle.sst_tool.proofs.make.pack.check_ranges.Given as goal

abbrev pub invariant-loop-place : goal.invariant-loop-place
invariant-loop-place g l = AreTablesWellFormed g.T.Ranged.range (take l.place l.tables)

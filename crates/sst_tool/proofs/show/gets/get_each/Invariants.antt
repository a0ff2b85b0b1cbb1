-- The files so far were read.
use Rattle.std.proofs.Common.{take}
use Rattle.lsm_files.specs.Reads.{AreKnown}
use Rattle.sst_tool.specs.show.Gets.{ReadsAll}
use Rattle.sst_tool.proofs.show.gets.get_each.Given as goal

abbrev pub invariant-loop-path : goal.invariant-loop-path
invariant-loop-path g l = AreKnown g.P.File.ReadAt.reads
    → ReadsAll l.options (g.P.Place.content l.place) (take l.path-index l.paths) l.found

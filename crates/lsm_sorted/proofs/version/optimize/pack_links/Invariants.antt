-- The tables of the runs so far are packed with their places.
use Rattle.std.proofs.Common.{take}
use Rattle.lsm_sorted.specs.version.Links.{runs_with_places}
use Rattle.lsm_sorted.specs.version.LinkedRuns.{ArePackedLinks}
use Rattle.lsm_sorted.proofs.version.optimize.pack_links.Given as goal

abbrev pub invariant-loop-run : goal.invariant-loop-run
invariant-loop-run g l =
    ArePackedLinks g.T.Ranged.range (runs_with_places 0 (take l.run l.runs)) l.packed.items

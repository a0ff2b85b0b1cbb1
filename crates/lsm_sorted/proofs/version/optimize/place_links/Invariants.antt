-- The tables so far are packed with their places.
use Rattle.std.proofs.Common.{List, ◌++◌, take}
use Rattle.lsm_sorted.specs.version.Links.{TableWithPlace, run_with_places}
use Rattle.lsm_sorted.specs.version.LinkedRuns.{ArePackedLinks}
use Rattle.lsm_sorted.proofs.version.optimize.place_links.Given as goal

abbrev pub invariant-loop-index : goal.invariant-loop-index
invariant-loop-index g l =
    (ts : List (TableWithPlace g.row.T.Denot))
    → ArePackedLinks g.T.Ranged.range ts l.initial.packed.items
    → ArePackedLinks g.T.Ranged.range (ts ++ run_with_places l.run 0 (take l.index l.tables))
    l.packed.items

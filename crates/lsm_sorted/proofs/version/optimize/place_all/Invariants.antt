-- The tables so far were put in one after the other.
use Rattle.std.proofs.Common.{◌≡◌, ◌++◌}
use Rattle.std.specs.Prelude.{IsPermutation}
use Rattle.lsm_sorted.specs.version.Packing.{put_all, tables_in, AreTablesWellFormed, ArePacked}
use Rattle.lsm_sorted.proofs.version.optimize.place_all.Given as goal

abbrev pub invariant-loop-table : goal.invariant-loop-table
invariant-loop-table g l =
    (AreTablesWellFormed g.T.Ranged.range l.yielded
    → ArePacked g.T.Ranged.range l.initial.packed.items
    → l.packed.items ≡ put_all g.T.Ranged.range l.yielded l.initial.packed.items)
    × IsPermutation (tables_in l.initial.packed.items ++ l.yielded) (tables_in l.packed.items)

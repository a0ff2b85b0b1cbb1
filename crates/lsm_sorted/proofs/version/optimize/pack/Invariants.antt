-- The tables of the runs so far were put in one after the other.
use Rattle.std.proofs.Common.{◌≡◌, []}
use Rattle.std.specs.Prelude.{IsPermutation}
use Rattle.lsm_sorted.specs.version.Packing.{put_all, tables_in, AreWellFormed}
use Rattle.lsm_sorted.proofs.version.optimize.pack.Given as goal

abbrev pub invariant-loop-run : goal.invariant-loop-run
invariant-loop-run g l =
    (AreWellFormed g.T.Ranged.range l.yielded
    → l.packed.items ≡ put_all g.T.Ranged.range (tables_in l.yielded) [])
    × IsPermutation (tables_in l.yielded) (tables_in l.packed.items)

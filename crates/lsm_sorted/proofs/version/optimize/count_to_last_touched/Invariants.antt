-- None of the runs passed so far is touched.
use Rattle.std.proofs.Common.{◌≡◌, drop, false}
use Rattle.std.specs.List.{list_any}
use Rattle.lsm_sorted.specs.version.Packing.{touches, AreInOrder}
use Rattle.lsm_sorted.proofs.version.optimize.count_to_last_touched.Given as goal

abbrev pub invariant-loop-level : goal.invariant-loop-level
invariant-loop-level g l =
    AreInOrder g.T.Ranged.range l.packed
    → list_any (touches g.T.Ranged.range l.range) (drop l.level l.packed) ≡ false

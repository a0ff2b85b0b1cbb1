-- The chain so far goes down to the run above those that are left.
use Rattle.std.specs.Option.{option_copied}
use Rattle.lsm_sorted.proofs.WalkLemmas.{Walk}
use Rattle.lsm_sorted.proofs.version.optimize.walk_down.Given as goal

abbrev pub invariant-loop-level : goal.invariant-loop-level
invariant-loop-level g l =
    Walk g.T.Ranged.range l.packed (option_copied l.above) l.chain.items l.level

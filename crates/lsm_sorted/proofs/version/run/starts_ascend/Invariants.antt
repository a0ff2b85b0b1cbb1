-- The pairs passed so far, from the last one on, ascend.
use Rattle.lsm_sorted.proofs.RunLemmas.{AscendsFrom}
use Rattle.lsm_sorted.proofs.version.run.starts_ascend.Given as goal

abbrev pub invariant-loop-place : goal.invariant-loop-place
invariant-loop-place g l = AscendsFrom g.T.Ranged.range l.tables l.place

use Rattle.std.proofs.Common.{length}
use Rattle.lsm_iters.proofs.Reaching.{Going}
use Rattle.lsm_iters.proofs.walk.Walk+P+P+Part.take.Given as goal

abbrev pub invariant-loop-item : goal.invariant-loop-item
invariant-loop-item g l = Going g.P.Part.Ends.left g.P.Parts.coming g.P.Parts.keeps l.at l.fn.self
    l.self

abbrev pub decreases-loop-item : goal.decreases-loop-item
decreases-loop-item g l = length (g.P.Parts.coming l.self.parts).parts

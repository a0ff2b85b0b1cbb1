use Rattle.std.proofs.Common.{Bool, sym, subst}
use Rattle.lsm_iters.specs.block_index.Kinds.{left_of}
use Rattle.lsm_iters.specs.block_index.Left.{LeftGives}
use Rattle.lsm_iters.specs.block_index.Seen.{TakesPlace}
use Rattle.lsm_iters.specs.Range.{left_unless}
use Rattle.lsm_iters.specs.walk.Ends.{taken_at}
use Rattle.lsm_iters.proofs.handles.Handles.take.Goals as goal

pub returns-clause-gives : goal.returns-clause-gives
returns-clause-gives g c =
    let on = subst (λ (b : Bool). TakesPlace (LeftGives (taken_at c.args.at)) (left_unless b (left_of c.self.inside.iter)) c.take_place.result (left_unless b (left_of c.take_place.new.self))) (sym c.if-self.false) c.take_place.ensures in
    rw (← c.self.view_is) on

use Rattle.lsm_iters.specs.block_index.Left.{TwoLevelGives}
use Rattle.lsm_iters.proofs.Taken.{fault_taken, none_left_taken, handle_taken}
use Rattle.lsm_iters.proofs.block_index.two_level.Iter.take_place.Goals as goal

pub returns-in-Some-Ok : goal.returns-in-Some-Ok
returns-in-Some-Ok g c =
    let step = rw c.in-Some-Ok.field-0-is at c.in-Some-Ok.ensures in
    handle_taken _ c.args.self.now c.answer.new.self c.in-Some-Ok.handle c.into_inner.result c.into_inner.ensures.offset c.into_inner.ensures.size step

pub returns-in-Some-Err : goal.returns-in-Some-Err
returns-in-Some-Err g c =
    let step = rw c.in-Some-Err.field-0-is at c.in-Some-Err.ensures in
    fault_taken _ c.args.self.now c.answer.new.self c.in-Some-Err.error step

pub returns-in-None : goal.returns-in-None
returns-in-None g c =
    none_left_taken _ c.args.self.now c.answer.new.self c.in-None.ensures

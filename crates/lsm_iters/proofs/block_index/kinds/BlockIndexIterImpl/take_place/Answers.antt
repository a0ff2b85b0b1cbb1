use Rattle.std.proofs.Common.{subst, sym}
use Rattle.lsm_iters.specs.block_index.Kinds.{left_of}
use Rattle.lsm_iters.specs.block_index.Left.{LeftGives, on_demand_left, two_level_left}
use Rattle.lsm_iters.specs.block_index.Seen.{TakesPlace}
use Rattle.lsm_iters.specs.declared.block_index.kinds.BlockIndexIterImpl.{BlockIndexIterImpl}
use Rattle.lsm_iters.specs.walk.Ends.{taken_at}
use Rattle.lsm_iters.proofs.Taken.{demand_left, levels_left}
use Rattle.lsm_iters.proofs.block_index.kinds.BlockIndexIterImpl.take_place.Goals as goal

pub returns-in-Volatile : goal.returns-in-Volatile
returns-in-Volatile g c =
    let t = c.take_place-in-Volatile.new.self in
    let r = c.take_place-in-Volatile.result in
    subst (λ (x : BlockIndexIterImpl _). TakesPlace (LeftGives (taken_at c.args.at)) (left_of x) r (on_demand_left t)) (sym c.in-Volatile.is) (demand_left c.args.at c.in-Volatile.iter t r c.take_place-in-Volatile.ensures)

pub returns-in-TwoLevel : goal.returns-in-TwoLevel
returns-in-TwoLevel g c =
    let t = c.take_place-in-TwoLevel.new.self in
    let r = c.take_place-in-TwoLevel.result in
    subst (λ (x : BlockIndexIterImpl _). TakesPlace (LeftGives (taken_at c.args.at)) (left_of x) r (two_level_left t)) (sym c.in-TwoLevel.is) (levels_left c.args.at c.in-TwoLevel.iter t r c.take_place-in-TwoLevel.ensures)

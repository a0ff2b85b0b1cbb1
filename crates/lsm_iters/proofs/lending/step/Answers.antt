use Rattle.std.proofs.Common.{◌∙◌, ap, arith, length, refl, sym}
use Rattle.std.specs.Prelude.{Some}
use Rattle.lsm_iters.specs.walk.Walks.{near}
use Rattle.lsm_iters.specs.Blocks.{KeepsBlocks, coming_blocks}
use Rattle.lsm_iters.specs.Lending.{cursor_remains}
use Rattle.lsm_iters.proofs.Reaching.{near_keeps, smaller}
use Rattle.lsm_iters.proofs.Cursors.{none_lent}
use Rattle.lsm_iters.proofs.Lent.{comes_first, comes_on, lends_fault, lends_item, lends_rest}
use Rattle.lsm_iters.proofs.lending.step.Goals as goal

pub loop-at-init : goal.loop-at-init
loop-at-init g c = comes_first c.args.at c.args.walk.now

pub returns-then-move_near-clause-takes : goal.returns-then-move_near-clause-takes
returns-then-move_near-clause-takes g c =
    let gives = c.move_near.ensures in
    (lends_item c.args.at c.args.walk.now c.loop-at.walk c.move_near.new.walk c.loop-at.invariant gives.is gives.moved (sym gives.more ∙ c.if-move_near.true)).takes

pub returns-then-move_near-clause-there : goal.returns-then-move_near-clause-there
returns-then-move_near-clause-there g c =
    let gives = c.move_near.ensures in
    (lends_item c.args.at c.args.walk.now c.loop-at.walk c.move_near.new.walk c.loop-at.invariant gives.is gives.moved (sym gives.more ∙ c.if-move_near.true)).there

pub loop-at-preserved : goal.loop-at-preserved
loop-at-preserved g c =
    let gives = c.move_near.ensures in
    let none = none_lent _ (sym gives.more ∙ c.if-move_near.false) in
    comes_on c.args.at c.args.walk.now c.loop-at.walk c.move_near.new.walk c.loop-at.invariant gives.is gives.moved none c.load.new.self c.in-Some-Ok.part c.put.new.walk (rw c.in-Some-Ok.field-0-is at c.in-Some-Ok.ensures) c.put.ensures

pub loop-at-smaller : goal.loop-at-smaller
loop-at-smaller g c =
    let v = c.move_near.new.walk in
    let p = c.load.new.self in
    let less = smaller cursor_remains coming_blocks KeepsBlocks c.args.at v.parts p c.in-Some-Ok.part (rw c.in-Some-Ok.field-0-is at c.in-Some-Ok.ensures) in
    let before = near_keeps cursor_remains coming_blocks c.args.at c.loop-at.walk v (near c.args.at v) c.move_near.ensures.is in
    let after = near_keeps cursor_remains coming_blocks c.args.at (record v { parts = p }) c.put.new.walk (Some c.in-Some-Ok.part) c.put.ensures in
    omega (arith, less, ap (λ q. length (coming_blocks q).parts) before.parts, ap (λ q. length (coming_blocks q).parts) after.parts)

pub returns-in-Some-Err-clause-takes : goal.returns-in-Some-Err-clause-takes
returns-in-Some-Err-clause-takes g c =
    let gives = c.move_near.ensures in
    let none = none_lent _ (sym gives.more ∙ c.if-move_near.false) in
    (lends_fault c.args.at c.args.walk.now c.loop-at.walk c.move_near.new.walk c.loop-at.invariant gives.is gives.moved none c.load.new.self c.in-Some-Err.error (rw c.in-Some-Err.field-0-is at c.in-Some-Err.ensures)).takes

pub returns-in-Some-Err-clause-there : goal.returns-in-Some-Err-clause-there
returns-in-Some-Err-clause-there g c =
    let gives = c.move_near.ensures in
    let none = none_lent _ (sym gives.more ∙ c.if-move_near.false) in
    (lends_fault c.args.at c.args.walk.now c.loop-at.walk c.move_near.new.walk c.loop-at.invariant gives.is gives.moved none c.load.new.self c.in-Some-Err.error (rw c.in-Some-Err.field-0-is at c.in-Some-Err.ensures)).there

pub returns-in-None-clause-takes : goal.returns-in-None-clause-takes
returns-in-None-clause-takes g c =
    let gives = c.move_near.ensures in
    let none = none_lent _ (sym gives.more ∙ c.if-move_near.false) in
    let v = c.move_near.new.walk in
    let w = record v { parts = c.load.new.self } in
    (lends_rest c.args.at c.args.walk.now c.loop-at.walk v c.loop-at.invariant gives.is gives.moved none w c.move_far.new.walk c.move_far.result refl c.in-None.ensures c.move_far.ensures.is c.move_far.ensures.moved).takes

pub returns-in-None-clause-there : goal.returns-in-None-clause-there
returns-in-None-clause-there g c =
    let gives = c.move_near.ensures in
    let none = none_lent _ (sym gives.more ∙ c.if-move_near.false) in
    let v = c.move_near.new.walk in
    let w = record v { parts = c.load.new.self } in
    (lends_rest c.args.at c.args.walk.now c.loop-at.walk v c.loop-at.invariant gives.is gives.moved none w c.move_far.new.walk c.move_far.result refl c.in-None.ensures c.move_far.ensures.is c.move_far.ensures.moved).there

use Rattle.std.proofs.Common.{refl, sym}
use Rattle.sst_c.proofs.Asking.{same_source}
use Rattle.sst_c.proofs.merged.step_merged.Goals as goal

pub returns-in-Ok-clause-front : goal.returns-in-Ok-clause-front
returns-in-Ok-clause-front c s same front =
    let one = same_source c.args.merged.now c.in-Some.asked s c.in-Some.is same in
    rw (sym one)
    (c.step.result, c.step.new.self, c.step.ensures.front front, c.in-Ok.ensures, refl)

pub returns-in-Ok-clause-back : goal.returns-in-Ok-clause-back
returns-in-Ok-clause-back c s same back =
    let one = same_source c.args.merged.now c.in-Some.asked s c.in-Some.is same in
    rw (sym one)
    (c.step.result, c.step.new.self, c.step.ensures.back back, c.in-Ok.ensures, refl)

pub returns-in-Err-clause-front : goal.returns-in-Err-clause-front
returns-in-Err-clause-front c s same front =
    let one = same_source c.args.merged.now c.in-Some.asked s c.in-Some.is same in
    rw (sym one)
    (c.step.result, c.step.new.self, c.step.ensures.front front, c.in-Err.ensures, c.give_up.ensures)

pub returns-in-Err-clause-back : goal.returns-in-Err-clause-back
returns-in-Err-clause-back c s same back =
    let one = same_source c.args.merged.now c.in-Some.asked s c.in-Some.is same in
    rw (sym one)
    (c.step.result, c.step.new.self, c.step.ensures.back back, c.in-Err.ensures, c.give_up.ensures)

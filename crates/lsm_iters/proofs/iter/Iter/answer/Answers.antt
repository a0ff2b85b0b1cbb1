use Rattle.std.proofs.Common.{◌∙◌, sym}
use Rattle.lsm_iters.proofs.Cursors.{none_lent}
use Rattle.lsm_iters.proofs.Shared.{came_none, came_there}
use Rattle.lsm_iters.proofs.iter.Iter.answer.Goals as goal

pub returns-in-Ok : goal.returns-in-Ok
returns-in-Ok g c =
    let t = c.go_on.new.self in
    came_there c.args.at c.args.self.now t t.lent c.in-Ok.item c.in-Ok-true.ensures.goes c.in-Ok.ensures.found

pub returns-in-Ok-false : goal.returns-in-Ok-false
returns-in-Ok-false g c =
    let t = c.go_on.new.self in
    came_none c.args.at c.args.self.now t t.lent c.in-Ok-false.ensures.goes (none_lent t.lent (sym c.in-Ok-false.ensures.more ∙ c.in-Ok-false.field-0-test))

use Rattle.std.proofs.Common.{◌∙◌, sym, subst}
use Rattle.std.specs.Prelude.{Option}
use Rattle.sst_entries.specs.Entry.{Entry}
use Rattle.lsm_iters.specs.walk.Ends.{StepGives}
use Rattle.lsm_iters.specs.Lending.{cursor_remains}
use Rattle.lsm_iters.proofs.Cursors.{cursor_shared, cursor_step, given, none_lent}
use Rattle.lsm_iters.proofs.block_cursor.BlockCursorEnds.step.Goals as goal

pub returns-then-move_to : goal.returns-then-move_to
returns-then-move_to g c =
    cursor_shared c.args.at c.args.self.now c.move_to.new.self c.share.result c.move_to.ensures.taken (sym c.move_to.ensures.more ∙ c.if-move_to.true) c.share.ensures.found c.share.ensures.err

pub returns : goal.returns
returns g c =
    let d = c.move_to.new.self in
    let none = none_lent d.lent (sym c.move_to.ensures.more ∙ c.if-move_to.false) in
    subst (λ (l : Option Entry). StepGives c.args.at (cursor_remains c.args.self.now) (given l) (cursor_remains d)) none (cursor_step c.args.at c.args.self.now d d.lent c.move_to.ensures.taken)

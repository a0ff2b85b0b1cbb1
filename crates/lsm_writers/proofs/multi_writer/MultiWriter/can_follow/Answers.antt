use Rattle.std.proofs.Common.{◌∙◌}
use Rattle.lsm_writers.specs.Tables.{lists_in}
use Rattle.lsm_writers.proofs.Rotating.{follows_all, follows_none}
use Rattle.lsm_writers.proofs.multi_writer.MultiWriter.can_follow.Goals as goal

pub returns-then-self : goal.returns-then-self
returns-then-self g c =
    rw (← c.self.view_is, c.if-self.true) (follows_none c.args.key.now.user_key c.args.key.now.seqno)

pub returns : goal.returns
returns g c =
    let i = c.self.inside in
    rw (← c.self.view_is, c.if-self.false) (c.can_follow.ensures ∙ follows_all i.target_size i.ids (lists_in i.finished.items) i.writer c.args.key.now.user_key c.args.key.now.seqno (c.self.invariant.1 c.if-self.false))

use Rattle.std.proofs.Common.{◌∙◌}
use Rattle.lsm_writers.specs.Tables.{lists_in}
use Rattle.lsm_writers.proofs.Rotating.{follows_all, follows_none}
use Rattle.lsm_writers.proofs.multi_writer.MultiWriter.can_follow_ref.Goals as goal

pub returns-then-self : goal.returns-then-self
returns-then-self g c =
    rw (← c.self.view_is, c.if-self.true) (follows_none c.args.entry.now.user_key.now c.args.entry.now.seqno)

pub returns : goal.returns
returns g c =
    let i = c.self.inside in
    rw (← c.self.view_is, c.if-self.false) (c.can_follow_ref.ensures ∙ follows_all i.target_size i.ids (lists_in i.finished.items) i.writer c.args.entry.now.user_key.now c.args.entry.now.seqno (c.self.invariant.1 c.if-self.false))

use Rattle.lsm_writers.proofs.TakenTables.{goes_on_rest, held_rest, last_stays, oldest_is, rest_left}
use Rattle.lsm_writers.proofs.multi_writer.MultiWriter.take_finished.Goals as goal

pub invariant_of-self : goal.invariant_of-self
invariant_of-self g c =
    let i = c.self.inside in
    rw c.pop_front.ensures.rest (
      held_rest i.writer.options i.writer.label i.finished.items c.self.invariant.0,
      λ works. goes_on_rest i.target_size i.ids i.finished.items i.writer (c.self.invariant.1 works),
    )

pub returns-clause-table : goal.returns-clause-table
returns-clause-table g c =
    let i = c.self.inside in
    rw (← c.self.view_is) (oldest_is i.target_size i.ids i.finished.items i.writer i.failed c.self.invariant.0 c.pop_front.result c.pop_front.new.self.items c.pop_front.ensures.items c.pop_front.ensures.rest)

pub returns-clause-left : goal.returns-clause-left
returns-clause-left g c =
    let i = c.self.inside in
    rw (c.pop_front.ensures.rest, ← c.self.view_is) (rest_left i.target_size i.ids i.finished.items i.writer i.failed c.self.invariant.0)

pub returns-clause-last : goal.returns-clause-last
returns-clause-last g c =
    let i = c.self.inside in
    rw (c.pop_front.ensures.rest, ← c.self.view_is) (last_stays i.target_size i.ids i.finished.items i.writer i.failed c.self.invariant.0 c.self.invariant.1)

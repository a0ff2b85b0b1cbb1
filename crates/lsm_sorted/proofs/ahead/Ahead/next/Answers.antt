use Rattle.std.proofs.Common.{sym, ◌∙◌}
use Rattle.lsm_sorted.proofs.CompactionHears.{hears_ahead, hears_source}
use Rattle.lsm_sorted.proofs.ahead.Ahead.next.Goals as goal

pub returns-in-Some-clause-hears : goal.returns-in-Some-clause-hears
returns-in-Some-clause-hears g c = hears_ahead g.I.Iterator.next_gives c.args.self.now c.take.new.self c.take.ensures.after c.in-Some.x c.in-Some.ensures.value

pub returns-clause-hears : goal.returns-clause-hears
returns-clause-hears g c = hears_source g.I.Iterator.next_gives c.args.self.now c.take.new.self c.take.ensures.after c.next_in_front.new.self c.next_in_front.result (sym c.take.ensures.value ∙ c.in_default.is) c.next_in_front.ensures.asked

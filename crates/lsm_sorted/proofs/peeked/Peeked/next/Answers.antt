use Rattle.std.proofs.Common.{sym, ◌∙◌}
use Rattle.lsm_sorted.proofs.PeekedLemmas.{hears_front, hears_source, hears_end_front}
use Rattle.lsm_sorted.proofs.peeked.Peeked.next.Goals as goal

pub returns-in-Some-clause-hears : goal.returns-in-Some-clause-hears
returns-in-Some-clause-hears g c =
    hears_front g.I.Iterator.next_gives c.args.self.now c.take.new.self c.take.ensures.after
    c.in-Some.x c.in-Some.ensures.value

pub returns-in-Some-next_in_front-clause-hears : goal.returns-in-Some-next_in_front-clause-hears
returns-in-Some-next_in_front-clause-hears g c =
    hears_source g.I.Iterator.next_gives c.args.self.now c.take.new.self c.take.ensures.after
    c.next_in_front.new.self c.in-Some-next_in_front.x (sym c.take.ensures.value ∙ c.in_default.is) c.in-Some-next_in_front.ensures.asked

pub returns-in-Some-take-clause-hears : goal.returns-in-Some-take-clause-hears
returns-in-Some-take-clause-hears g c =
    rw c.in-Some-take.ensures.value
    (hears_end_front g.I.Iterator.next_gives c.args.self.now c.take.new.self c.take.ensures.after
    c.next_in_front.new.self c.take-in-None.new.self c.take-in-None.ensures.after (sym c.take.ensures.value ∙ c.in_default.is) c.in-None.ensures.asked)

pub returns-in-None-take-clause-hears : goal.returns-in-None-take-clause-hears
returns-in-None-take-clause-hears g c =
    rw c.in-None-take.ensures.value
    (hears_end_front g.I.Iterator.next_gives c.args.self.now c.take.new.self c.take.ensures.after
    c.next_in_front.new.self c.take-in-None.new.self c.take-in-None.ensures.after (sym c.take.ensures.value ∙ c.in_default.is) c.in-None.ensures.asked)

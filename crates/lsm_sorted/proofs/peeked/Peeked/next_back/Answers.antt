use Rattle.std.proofs.Common.{sym, ◌∙◌}
use Rattle.lsm_sorted.proofs.PeekedLemmas.{hears_back, hears_source_back, hears_end_back}
use Rattle.lsm_sorted.proofs.peeked.Peeked.next_back.Goals as goal

pub returns-in-Some-clause-hears : goal.returns-in-Some-clause-hears
returns-in-Some-clause-hears g c =
    hears_back g.I.DoubleEndedIterator.next_back_gives c.args.self.now c.take.new.self c.take.ensures.after
    c.in-Some.x c.in-Some.ensures.value

pub returns-in-Some-next_back-clause-hears : goal.returns-in-Some-next_back-clause-hears
returns-in-Some-next_back-clause-hears g c =
    hears_source_back g.I.DoubleEndedIterator.next_back_gives c.args.self.now c.take.new.self c.take.ensures.after
    c.next_back.new.self c.in-Some-next_back.x (sym c.take.ensures.value ∙ c.in_default.is) c.in-Some-next_back.ensures.asked

pub returns-in-Some-take-clause-hears : goal.returns-in-Some-take-clause-hears
returns-in-Some-take-clause-hears g c =
    rw c.in-Some-take.ensures.value
    (hears_end_back g.I.DoubleEndedIterator.next_back_gives c.args.self.now c.take.new.self c.take.ensures.after
    c.next_back.new.self c.take-in-None.new.self c.take-in-None.ensures.after (sym c.take.ensures.value ∙ c.in_default.is) c.in-None.ensures.asked)

pub returns-in-None-take-clause-hears : goal.returns-in-None-take-clause-hears
returns-in-None-take-clause-hears g c =
    rw c.in-None-take.ensures.value
    (hears_end_back g.I.DoubleEndedIterator.next_back_gives c.args.self.now c.take.new.self c.take.ensures.after
    c.next_back.new.self c.take-in-None.new.self c.take-in-None.ensures.after (sym c.take.ensures.value ∙ c.in_default.is) c.in-None.ensures.asked)

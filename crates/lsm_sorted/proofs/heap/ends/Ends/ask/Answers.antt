use Rattle.sst_entries.specs.Stream.{Steps}
use Rattle.lsm_sorted.proofs.EndsLemmas.{goes_ready, asked_now, asked_yields, goes_now, lowers_now}
use Rattle.lsm_sorted.proofs.EndsLemmas.{ended_by}
use Rattle.lsm_sorted.proofs.heap.ends.Ends.ask.Goals as goal

pub ask-answer-requires : goal.ask-answer-requires
ask-answer-requires g c = (goes_ready _ _ _ _ _ c.args.self.now c.if-self.false c.requires).0

pub returns-clause-asked : goal.returns-clause-asked
returns-clause-asked g c =
    asked_now (Steps g.I.Iterator.next_gives g.E.End.back_gives g.E.End.end) c.args.self.now c.ask-answer.result c.ask-answer.new.iter c.is_none-self.result c.if-self.false (ended_by c.ask-answer.result c.is_none-self.result c.is_none-self.ensures) c.ask-answer.ensures.steps

pub returns-clause-yields : goal.returns-clause-yields
returns-clause-yields g c stops =
    asked_yields stops g.I.Iterator.next_gives g.E.End.back_gives g.E.End.end c.args.self.now _ _
    (returns-clause-asked g c)

pub returns-clause-goes : goal.returns-clause-goes
returns-clause-goes g c =
    goes_now g.I.Iterator.next_gives g.E.End.back_gives g.I.Iterator.can_next g.E.End.can_back g.I.Iterator.remaining c.args.self.now c.ask-answer.result c.ask-answer.new.iter c.is_none-self.result
    (goes_ready _ _ _ _ _ c.args.self.now c.if-self.false c.requires).1 (ended_by c.ask-answer.result c.is_none-self.result c.is_none-self.ensures) c.ask-answer.ensures.goes

pub returns-clause-lowers : goal.returns-clause-lowers
returns-clause-lowers g c =
    lowers_now g.I.Iterator.next_gives g.E.End.back_gives g.I.Iterator.can_next g.E.End.can_back g.I.Iterator.remaining c.args.self.now c.ask-answer.result c.ask-answer.new.iter c.is_none-self.result
    c.if-self.false (goes_ready _ _ _ _ _ c.args.self.now c.if-self.false c.requires).1 (ended_by c.ask-answer.result c.is_none-self.result c.is_none-self.ensures) c.ask-answer.ensures.goes

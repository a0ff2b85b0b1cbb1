use Rattle.sst_entries.proofs.StreamLemmas.{can_now_back}
use Rattle.lsm_sorted.proofs.EndsLemmas.{progress_back}
use Rattle.lsm_sorted.proofs.heap.ends.AtBackEnd.ask.Goals as goal

pub next_back-requires : goal.next_back-requires
next_back-requires g c = can_now_back g.I.Iterator.next_gives g.I.DoubleEndedIterator.next_back_gives g.I.Iterator.can_next g.I.DoubleEndedIterator.can_next_back c.args.iter.now c.requires

pub returns-clause-goes : goal.returns-clause-goes
returns-clause-goes g c =
    progress_back g.I.Iterator.next_gives g.I.DoubleEndedIterator.next_back_gives g.I.Iterator.can_next g.I.DoubleEndedIterator.can_next_back g.I.Iterator.remaining c.args.iter.now c.next_back.result c.next_back.new.self c.requires c.next_back.ensures.steps c.next_back.ensures.goes

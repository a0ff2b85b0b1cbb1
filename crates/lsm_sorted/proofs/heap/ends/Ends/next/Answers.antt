use Rattle.lsm_sorted.proofs.EndsLemmas.{asked_first, goes_in_front, goes_after_front}
use Rattle.lsm_sorted.proofs.heap.ends.Ends.next.Goals as goal

pub next_in_front-requires : goal.next_in_front-requires
next_in_front-requires g c = goes_in_front _ _ _ _ _ c.args.self.now c.requires

pub returns-clause-goes : goal.returns-clause-goes
returns-clause-goes g c = goes_after_front _ _ _ _ _ c.args.self.now c.next_in_front.result c.next_in_front.new.self c.requires c.next_in_front.ensures.asked c.next_in_front.ensures.goes

pub returns-clause-yields : goal.returns-clause-yields
returns-clause-yields g c stops = asked_first stops _ _ c.args.self.now c.next_in_front.result c.next_in_front.new.self c.next_in_front.ensures.asked

use Rattle.sst_entries.specs.Stream.{nowhere}
use Rattle.sst_entries.proofs.StreamLemmas.{can_now}
use Rattle.lsm_sorted.proofs.EndsLemmas.{progress_front}
use Rattle.lsm_sorted.proofs.heap.ends.AtFrontEnd.ask.Goals as goal

pub next-requires : goal.next-requires
next-requires g c = can_now g.I.Iterator.next_gives nowhere g.I.Iterator.can_next g.I.Iterator.can_next c.args.iter.now c.requires

pub returns-clause-goes : goal.returns-clause-goes
returns-clause-goes g c =
    progress_front g.I.Iterator.next_gives nowhere g.I.Iterator.can_next g.I.Iterator.can_next g.I.Iterator.remaining c.args.iter.now c.next.result c.next.new.self c.requires c.next.ensures.steps c.next.ensures.goes

use Rattle.lsm_sorted.proofs.WholeLemmas.{whole, can_compact}
use Rattle.lsm_sorted.proofs.CompactionRuns.{compacts_heard}
use Rattle.lsm_sorted.proofs.compaction.stream.CompactionStream.whole_run.Goals as goal

pub returns-clause-gives : goal.returns-clause-gives
returns-clause-gives g c stops xs gave s t has fine runs last =
    whole g.I.Iterator.next_gives g.I.Iterator.can_next g.I.Iterator.remaining g.F.StreamFilter.gives g.C.DroppedKvCallback.gets stops gave c.args.self.now s t xs has fine runs last

pub returns-clause-can : goal.returns-clause-can
returns-clause-can g c may = can_compact g.I.Iterator.next_gives g.I.Iterator.can_next g.I.Iterator.remaining g.F.StreamFilter.gives g.C.DroppedKvCallback.gets c.args.self.now may

pub returns-clause-heard : goal.returns-clause-heard
returns-clause-heard g c = compacts_heard g.I.Iterator.next_gives g.I.Iterator.can_next g.I.Iterator.remaining g.F.StreamFilter.gives g.C.DroppedKvCallback.gets c.args.self.now

use Rattle.sst_entries.specs.Stream.{ok_results}
use Rattle.lsm_sorted.specs.CompactionState.{rules_of}
use Rattle.lsm_sorted.proofs.WholeLemmas.{yields_outs, outs_unfiltered}
use Rattle.lsm_sorted.proofs.CompactionRuns.{gives_outs}
use Rattle.lsm_sorted.proofs.compaction.stream.«CompactionStream+I+NoFilter+C».unfiltered_run.Goals as goal

pub returns-clause-outs : goal.returns-clause-outs
returns-clause-outs g c stops xs has = yields_outs g.I.Iterator.next_gives g.I.Iterator.can_next g.I.Iterator.remaining g.C.DroppedKvCallback.gets stops c.args.self.now xs has

pub returns-clause-kept : goal.returns-clause-kept
returns-clause-kept g c stops xs has =
    rw (← outs_unfiltered (rules_of c.args.self.now) xs) (yields_outs g.I.Iterator.next_gives g.I.Iterator.can_next g.I.Iterator.remaining g.C.DroppedKvCallback.gets stops c.args.self.now (ok_results xs) has)

pub returns-clause-heard : goal.returns-clause-heard
returns-clause-heard g c = gives_outs g.I.Iterator.next_gives g.I.Iterator.can_next g.I.Iterator.remaining g.C.DroppedKvCallback.gets c.args.self.now

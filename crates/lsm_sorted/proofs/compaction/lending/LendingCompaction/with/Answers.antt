-- A fresh compaction.
use Rattle.lsm_sorted.proofs.CompactionYields.{fresh_can, fresh_passes, fresh_results, fresh_stays}
use Rattle.lsm_sorted.proofs.CompactionYields.{fresh_whole, of_made}
use Rattle.lsm_sorted.proofs.compaction.lending.LendingCompaction.with.Goals as goal

pub returns-clause-whole : goal.returns-clause-whole
returns-clause-whole g c =
    of_made _ _ _ (λ s fresh. fresh_whole g.F.LentFilter.gives g.C.LentCallback.gets g.L.Lending.advances g.L.Lending.lent g.L.Lending.can_advance c.args.source c.args.rules _ _ s fresh) c.fresh.ensures.fresh

pub returns-clause-places : goal.returns-clause-places
returns-clause-places g c =
    of_made _ _ _ (λ s fresh. fresh_results g.F.LentFilter.gives g.C.LentCallback.gets g.L.Lending.advances g.L.Lending.lent g.L.Lending.can_advance c.args.source c.args.rules _ _ s fresh) c.fresh.ensures.fresh

pub returns-clause-faults : goal.returns-clause-faults
returns-clause-faults g c =
    of_made _ _ _ (λ s fresh. fresh_passes g.F.LentFilter.gives g.C.LentCallback.gets g.L.Lending.advances g.L.Lending.lent g.L.Lending.can_advance c.args.source c.args.rules _ _ s fresh) c.fresh.ensures.fresh

pub returns-clause-over : goal.returns-clause-over
returns-clause-over g c =
    of_made _ _ _ (λ s fresh. fresh_stays g.F.LentFilter.gives g.C.LentCallback.gets g.L.Lending.advances g.L.Lending.lent g.L.Lending.can_advance c.args.source c.args.rules _ _ s fresh) c.fresh.ensures.fresh

pub returns-clause-can : goal.returns-clause-can
returns-clause-can g c may =
    of_made _ _ _ (λ s fresh. fresh_can g.F.LentFilter.gives g.C.LentCallback.gets g.L.Lending.advances g.L.Lending.lent g.L.Lending.can_advance c.args.source c.args.rules _ _ s fresh may) c.fresh.ensures.fresh

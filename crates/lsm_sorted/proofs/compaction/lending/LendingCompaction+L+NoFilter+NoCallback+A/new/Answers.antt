-- A fresh compaction without a filter.
use Rattle.lsm_sorted.proofs.CompactionYields.{yields_entries, yields_results, fresh_can, fresh_faults}
use Rattle.lsm_sorted.proofs.CompactionYields.{fresh_over, of_made}
use Rattle.lsm_sorted.proofs.KeepsAllLemmas.{TakesAny}
use Rattle.lsm_sorted.proofs.WholeLemmas.{KeepsAll}
use Rattle.lsm_sorted.proofs.compaction.lending.LendingCompaction+L+NoFilter+NoCallback+A.new.Goals as goal

pub returns-clause-kept : goal.returns-clause-kept
returns-clause-kept g c =
    of_made _ _ _ (λ s fresh. yields_entries g.L.Lending.advances g.L.Lending.can_advance g.L.Lending.lent c.args.source c.args.rules _ _ s fresh) c.fresh.ensures.fresh

pub returns-clause-places : goal.returns-clause-places
returns-clause-places g c =
    of_made _ _ _ (λ s fresh. yields_results g.L.Lending.advances g.L.Lending.can_advance g.L.Lending.lent c.args.source c.args.rules _ _ s fresh) c.fresh.ensures.fresh

pub returns-clause-faults : goal.returns-clause-faults
returns-clause-faults g c =
    of_made _ _ _ (λ s fresh. fresh_faults g.L.Lending.advances g.L.Lending.lent g.L.Lending.can_advance c.args.source c.args.rules _ _ s fresh) c.fresh.ensures.fresh

pub returns-clause-over : goal.returns-clause-over
returns-clause-over g c =
    of_made _ _ _ (λ s fresh. fresh_over g.L.Lending.advances g.L.Lending.lent g.L.Lending.can_advance c.args.source c.args.rules _ _ s fresh) c.fresh.ensures.fresh

pub returns-clause-can : goal.returns-clause-can
returns-clause-can g c may =
    of_made _ _ _ (λ s fresh. fresh_can KeepsAll TakesAny g.L.Lending.advances g.L.Lending.lent g.L.Lending.can_advance c.args.source c.args.rules _ _ s fresh may) c.fresh.ensures.fresh

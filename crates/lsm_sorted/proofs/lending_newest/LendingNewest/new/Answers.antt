-- A fresh stream.
use Rattle.std.proofs.Common.{refl, true}
use Rattle.lsm_sorted.proofs.LentNewestLemmas.{yields_newest_results, yields_newest_entries}
use Rattle.lsm_sorted.proofs.LentNewestLemmas.{can_newest}
use Rattle.lsm_sorted.specs.lending.LentNewest.{AdvancesNewest, newest_lender}
use Rattle.lsm_sorted.proofs.LentFaultsLemmas.{always_passes, always_stays}
use Rattle.lsm_sorted.proofs.lending_newest.LendingNewest.new.Goals as goal

pub returns-clause-places : goal.returns-clause-places
returns-clause-places g c =
    yields_newest_results g.L.Lending.advances g.L.Lending.can_advance _ refl refl

pub returns-clause-newest : goal.returns-clause-newest
returns-clause-newest g c =
    yields_newest_entries g.L.Lending.advances g.L.Lending.can_advance _ refl refl

pub returns-clause-can : goal.returns-clause-can
returns-clause-can g c may =
    can_newest g.L.Lending.advances g.L.Lending.can_advance _ may

pub returns-clause-faults : goal.returns-clause-faults
returns-clause-faults g c =
    always_passes g.L.Lending.advances newest_lender (λ n. n.is_over) (λ n. true)
    (AdvancesNewest g.L.Lending.advances g.L.Lending.can_advance) (λ s r t step. step.states) _ refl

pub returns-clause-over : goal.returns-clause-over
returns-clause-over g c =
    always_stays g.L.Lending.advances newest_lender (λ n. n.is_over) (λ n. true)
    (AdvancesNewest g.L.Lending.advances g.L.Lending.can_advance) (λ s r t step. step.states) _ refl

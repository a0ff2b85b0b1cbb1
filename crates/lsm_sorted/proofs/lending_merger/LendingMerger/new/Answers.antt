-- A fresh merger.
use Rattle.std.proofs.Common.{refl, arith}
use Rattle.lsm_sorted.proofs.LentYields.{lent_in_place, lent_merged, lent_may, lent_can, lent_ends}
use Rattle.lsm_sorted.proofs.lending_merger.LendingMerger.new.Goals as goal

pub returns-clause-yields : goal.returns-clause-yields
returns-clause-yields g c =
    lent_merged g.L.Lending.advances g.L.Lending.can_advance g.L.Lending.lent c.args.sources.items _ refl c.in_ok-queue.ensures.items refl

pub returns-clause-places : goal.returns-clause-places
returns-clause-places g c =
    lent_in_place g.L.Lending.advances g.L.Lending.can_advance g.L.Lending.lent c.args.sources.items _ refl c.in_ok-queue.ensures.items refl

pub returns-clause-ends : goal.returns-clause-ends
returns-clause-ends g c =
    lent_ends g.L.Lending.advances g.L.Lending.can_advance g.L.Lending.lent _

pub returns-clause-can : goal.returns-clause-can
returns-clause-can g c all =
    lent_can g.L.Lending.advances g.L.Lending.can_advance g.L.Lending.lent _
    (lent_may g.L.Lending.advances g.L.Lending.can_advance g.L.Lending.lent c.args.sources.items _ refl c.in_ok-queue.ensures.items refl (omega (arith, c.in_ok-queue.ensures.capacity, c.len.ensures, c.args.sources.ok.0)) all)

use Rattle.std.specs.Prelude.{None}
use Rattle.std.proofs.Common.{◌≡◌, ◌≤◌, false}
use Rattle.lsm_sorted.specs.lending.LentCompaction.{MayLendCompacted, StepsCompacted}
use Rattle.lsm_sorted.specs.lending.LentCompaction.{compacted_left}
use Rattle.lsm_sorted.specs.declared.compaction.lending.Lends.TheVariants.{Nothing}
use Rattle.lsm_sorted.proofs.compaction.lending.LendingCompaction.go_on.Given as goal

abbrev pub invariant-loop-self : goal.invariant-loop-self
invariant-loop-self g l =
    record {
      may : MayLendCompacted g.L.Lending.advances g.L.Lending.can_advance l.self;
      live : l.self.is_over ≡ false;
      empty : l.self.lends ≡ Nothing;
      few : compacted_left g.L.Lending.left l.self ≤ compacted_left g.L.Lending.left l.initial.self;
      some : StepsCompacted g.F.LentFilter.gives g.C.LentCallback.gets g.L.Lending.advances
          g.L.Lending.lent l.initial.self None l.self;
    }

abbrev pub decreases-loop-self : goal.decreases-loop-self
decreases-loop-self g l = compacted_left g.L.Lending.left l.self

use Rattle.std.proofs.Common.{◌≡◌, ◌≤◌, Bool}
use Rattle.sst_entries.specs.Stream.{CanYield, nowhere}
use Rattle.sst_entries.specs.declared.error.Error.{Error}
use Rattle.lsm_sorted.specs.lending.LentNewest.{given_key}
use Rattle.lsm_sorted.proofs.LentNewestLemmas.{Still}
use Rattle.lsm_sorted.proofs.LentNewestListens.{Skipped}
use Rattle.lsm_sorted.proofs.lending_newest.LendingNewest.go_on.Given as goal

abbrev pub invariant-loop-self : goal.invariant-loop-self
invariant-loop-self g l =
    let advances = g.L.Lending.advances in
    let can = g.L.Lending.can_advance in
    record {
      may : CanYield advances nowhere can can l.self.source;
      key : l.self.key ≡ l.initial.self.key;
      has : l.self.has_key ≡ l.initial.self.has_key;
      live : l.self.is_over ≡ l.initial.self.is_over;
      lowers : g.L.Lending.left l.self.source ≤ g.L.Lending.left l.initial.self.source;
      still : (stops : Error → Bool) → Still stops advances (given_key l.initial.self)
          l.initial.self.source l.self.source;
      skipped : Skipped advances l.initial.self.source l.self.source;
    }

abbrev pub decreases-loop-self : goal.decreases-loop-self
decreases-loop-self g l = g.L.Lending.left l.self.source

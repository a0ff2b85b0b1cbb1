use Rattle.std.proofs.Common.{◌≡◌, ◌<◌, ◌≤◌, Bool, true, List, [], length}
use Rattle.std.specs.Prelude.{All, not, nat_lt}
use Rattle.sst_entries.specs.declared.error.Error.{Error}
use Rattle.lsm_sorted.specs.merge.Ends.{R}
use Rattle.lsm_sorted.specs.lending.Lent.{IsReady, Rests, lent_total, queued}
use Rattle.lsm_sorted.proofs.lending_merger.LendingMerger.start.Given as goal

abbrev pub invariant-loop-source : goal.invariant-loop-source
invariant-loop-source g l =
    let advances = g.L.Lending.advances in
    let lent = g.L.Lending.lent in
    record {
      ready : IsReady advances g.L.Lending.can_advance lent l.self;
      count : length l.self.sources.items ≡ length l.initial.self.sources.items;
      same : l.self.is_started ≡ l.initial.self.is_started;
      known : All (λ q. q < l.source) (queued l.self);
      few : length l.self.queue.items ≤ l.source;
      lowers : lent_total g.L.Lending.left l.self ≤ lent_total g.L.Lending.left l.initial.self;
      rests : (stops : Error → Bool) (lists : List (List R))
          → Rests stops advances lent (λ i. true) l.initial.self.sources.items [] lists
          → Rests stops advances lent (λ j. not (nat_lt j l.source)) l.self.sources.items
          (queued l.self) lists;
    }

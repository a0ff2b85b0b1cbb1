use Rattle.std.proofs.Common.{◌≤◌}
use Rattle.sst_entries.specs.Stream.{CanYield, nowhere}
use Rattle.lsm_sorted.specs.Below.{LetsGo}
use Rattle.lsm_sorted.proofs.below.advance_below.Given as goal

abbrev pub invariant-loop-source : goal.invariant-loop-source
invariant-loop-source g l =
    let advances = g.L.Lending.advances in
    let can = g.L.Lending.can_advance in
    let left = g.L.Lending.left in
    record {
      asks : CanYield advances nowhere can can l.source;
      before : LetsGo l.seqno advances l.fn.source l.source;
      fewer : left l.source ≤ left l.fn.source;
    }

abbrev pub decreases-loop-source : goal.decreases-loop-source
decreases-loop-source g l = g.L.Lending.left l.source

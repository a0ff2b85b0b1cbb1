use Rattle.std.proofs.Common.{◌≡◌, ◌≤◌}
use Rattle.std.specs.Iterator.{size}
use Rattle.sst_entries.specs.Stream.{nowhere}
use Rattle.lsm_sorted.specs.Below.{LetsGo, MayAsk}
use Rattle.lsm_sorted.proofs.below.BelowIterator.next.Given as goal

abbrev pub invariant-loop-entry : goal.invariant-loop-entry
invariant-loop-entry g l =
    let front = g.I.Iterator.next_gives in
    let left = g.I.Iterator.remaining in
    record {
      may : MayAsk front nowhere g.I.Iterator.can_next g.I.Iterator.can_next left l.self;
      same : l.self.seqno ≡ l.fn.self.seqno;
      before : LetsGo l.fn.self.seqno front l.fn.self.iter l.self.iter;
      fewer : size (left l.self.iter) ≤ size (left l.fn.self.iter);
    }

abbrev pub decreases-loop-entry : goal.decreases-loop-entry
decreases-loop-entry g l = size (g.I.Iterator.remaining l.self.iter)

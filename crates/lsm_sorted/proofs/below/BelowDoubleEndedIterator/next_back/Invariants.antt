use Rattle.std.proofs.Common.{◌≡◌, ◌≤◌}
use Rattle.std.specs.Iterator.{size}
use Rattle.lsm_sorted.specs.Below.{LetsGo, MayAsk}
use Rattle.lsm_sorted.proofs.below.BelowDoubleEndedIterator.next_back.Given as goal

abbrev pub invariant-loop-entry : goal.invariant-loop-entry
invariant-loop-entry g l =
    let back = g.I.DoubleEndedIterator.next_back_gives in
    let left = g.I.Iterator.remaining in
    record {
      may : MayAsk g.I.Iterator.next_gives back g.I.Iterator.can_next
          g.I.DoubleEndedIterator.can_next_back left l.self;
      same : l.self.seqno ≡ l.fn.self.seqno;
      before : LetsGo l.fn.self.seqno back l.fn.self.iter l.self.iter;
      fewer : size (left l.self.iter) ≤ size (left l.fn.self.iter);
    }

abbrev pub decreases-loop-entry : goal.decreases-loop-entry
decreases-loop-entry g l = size (g.I.Iterator.remaining l.self.iter)

use Rattle.sst_entries.proofs.StreamLemmas.{can_now, can_now_back}
use Rattle.lsm_sorted.proofs.BelowLemmas.{can_step_both, yields_below}
use Rattle.lsm_sorted.proofs.below.Below.from_both_ends.Goals as goal

pub returns-clause-yields : goal.returns-clause-yields
returns-clause-yields g c iter seqno is = yields_below g.I.Iterator.next_gives g.I.DoubleEndedIterator.next_back_gives _ _ iter seqno _ (λ s r t step. step) c.args.self.now is

pub returns-clause-can : goal.returns-clause-can
returns-clause-can g c iter seqno is = can_step_both g.I.Iterator.next_gives g.I.DoubleEndedIterator.next_back_gives g.I.Iterator.can_next g.I.DoubleEndedIterator.can_next_back g.I.Iterator.remaining iter seqno c.args.self.now is

pub returns-clause-next : goal.returns-clause-next
returns-clause-next g c iter seqno is can ends = can_now _ _ _ _ c.args.self.now ((returns-clause-can g c iter seqno is).asks can ends)

pub returns-clause-next_back : goal.returns-clause-next_back
returns-clause-next_back g c iter seqno is can ends = can_now_back _ _ _ _ c.args.self.now ((returns-clause-can g c iter seqno is).asks can ends)

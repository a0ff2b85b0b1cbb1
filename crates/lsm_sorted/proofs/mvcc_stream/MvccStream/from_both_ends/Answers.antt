use Rattle.lsm_sorted.proofs.MvccRuns.{answers_steps, yields_steps, yields_newest_of, can_step_both}
use Rattle.lsm_sorted.proofs.mvcc_stream.MvccStream.from_both_ends.Goals as goal

pub returns-clause-heard : goal.returns-clause-heard
returns-clause-heard g c iter starts = answers_steps g.I.Iterator.next_gives g.I.DoubleEndedIterator.next_back_gives _ _ (λ s r t step. step.hears) (λ s r t step. step.hears) iter c.args.self.now starts

pub returns-clause-steps : goal.returns-clause-steps
returns-clause-steps g c iter starts = yields_steps g.I.Iterator.next_gives g.I.DoubleEndedIterator.next_back_gives _ _ (λ s r t step. step.hears) (λ s r t step. step.hears) iter c.args.self.now starts

pub returns-clause-newest : goal.returns-clause-newest
returns-clause-newest g c iter starts = yields_newest_of g.I.Iterator.next_gives g.I.DoubleEndedIterator.next_back_gives _ _ (λ s r t step. step.hears) (λ s r t step. step.hears) iter c.args.self.now starts

pub returns-clause-can : goal.returns-clause-can
returns-clause-can g c iter starts = can_step_both g.I.Iterator.next_gives g.I.DoubleEndedIterator.next_back_gives g.I.Iterator.can_next g.I.DoubleEndedIterator.can_next_back g.I.Iterator.remaining iter c.args.self.now starts

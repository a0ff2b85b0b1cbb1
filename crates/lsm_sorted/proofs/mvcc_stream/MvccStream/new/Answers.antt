use Rattle.sst_entries.specs.Stream.{nowhere}
use Rattle.lsm_sorted.proofs.MvccRuns.{answers_steps, yields_steps, yields_newest_of, starts_at, can_step_in_front}
use Rattle.lsm_sorted.proofs.mvcc_stream.MvccStream.new.Goals as goal

pub returns-clause-heard : goal.returns-clause-heard
returns-clause-heard g c =
    let starts = starts_at c.new.result c.args.iter c.new.ensures.iter c.new.ensures.fresh c.new.ensures.front c.new.ensures.back in
    answers_steps g.I.Iterator.next_gives nowhere _ nowhere (λ s r t step. step.hears) (λ s r t step. absurd step) c.args.iter _ starts

pub returns-clause-steps : goal.returns-clause-steps
returns-clause-steps g c =
    let starts = starts_at c.new.result c.args.iter c.new.ensures.iter c.new.ensures.fresh c.new.ensures.front c.new.ensures.back in
    yields_steps g.I.Iterator.next_gives nowhere _ nowhere (λ s r t step. step.hears) (λ s r t step. absurd step) c.args.iter _ starts

pub returns-clause-newest : goal.returns-clause-newest
returns-clause-newest g c =
    let starts = starts_at c.new.result c.args.iter c.new.ensures.iter c.new.ensures.fresh c.new.ensures.front c.new.ensures.back in
    yields_newest_of g.I.Iterator.next_gives nowhere _ nowhere (λ s r t step. step.hears) (λ s r t step. absurd step) c.args.iter _ starts

pub returns-clause-can : goal.returns-clause-can
returns-clause-can g c =
    let starts = starts_at c.new.result c.args.iter c.new.ensures.iter c.new.ensures.fresh c.new.ensures.front c.new.ensures.back in
    can_step_in_front g.I.Iterator.next_gives g.I.Iterator.can_next g.I.Iterator.remaining c.args.iter _ starts

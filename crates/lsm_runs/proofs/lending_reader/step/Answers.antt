use Rattle.std.proofs.Common.{◌∙◌, sym}
use Rattle.std.specs.Prelude.{Some, Ok, Err}
use Rattle.std.proofs.lemmas.Result.{err_from_is_err_and}
use Rattle.sst_entries.specs.declared.stream.Direction.TheVariants.{Front}
use Rattle.lsm_iters.proofs.Reaching.{smaller}
use Rattle.lsm_iters.specs.Range.{range_remains}
use Rattle.lsm_runs.specs.LentRun.{OpensNext}
use Rattle.lsm_run_parts.specs.Tables.{KeepsTables, coming_tables}
use Rattle.lsm_runs.proofs.LentRuns.{comes_first, comes_on, lends_entry, lends_fault, lends_item, lends_last, none_there}
use Rattle.lsm_runs.proofs.lending_reader.step.Goals as goal

pub loop-walk-init : goal.loop-walk-init
loop-walk-init g c = comes_first c.args.walk.now

pub returns-in_err-advance_in-clause-takes : goal.returns-in_err-advance_in-clause-takes
returns-in_err-advance_in-clause-takes g c =
    let p = err_from_is_err_and c.from_residual.result c.from_residual.ensures.1 in
    rw (p.1, p.2) ((lends_item c.args.walk.now c.loop-walk.walk c.advance_in.new.part c.loop-walk.invariant (Err c.in_err-advance_in.field-0.0) c.in_err-advance_in.ensures.lends).takes)

pub returns-in_err-advance_in-clause-there : goal.returns-in_err-advance_in-clause-there
returns-in_err-advance_in-clause-there g c =
    let p = err_from_is_err_and c.from_residual.result c.from_residual.ensures.1 in
    rw (p.1, p.2) ((lends_item c.args.walk.now c.loop-walk.walk c.advance_in.new.part c.loop-walk.invariant (Err c.in_err-advance_in.field-0.0) c.in_err-advance_in.ensures.lends).there)

pub returns-then-branch-clause-takes : goal.returns-then-branch-clause-takes
returns-then-branch-clause-takes g c =
    let step = c.in_ok-advance_in.ensures in
    (lends_entry c.args.walk.now c.loop-walk.walk c.advance_in.new.part c.loop-walk.invariant (sym step.more ∙ c.if-branch.true) step.lends).takes

pub returns-then-branch-clause-there : goal.returns-then-branch-clause-there
returns-then-branch-clause-there g c =
    let step = c.in_ok-advance_in.ensures in
    (lends_entry c.args.walk.now c.loop-walk.walk c.advance_in.new.part c.loop-walk.invariant (sym step.more ∙ c.if-branch.true) step.lends).there

pub returns-then-branch-clause-more : goal.returns-then-branch-clause-more
returns-then-branch-clause-more g c = sym (sym c.in_ok-advance_in.ensures.more ∙ c.if-branch.true)

pub loop-walk-preserved : goal.loop-walk-preserved
loop-walk-preserved g c =
    let step = c.in_ok-advance_in.ensures in
    let none = none_there _ (sym step.more ∙ c.if-branch.false) in
    let opens : OpensNext (record c.loop-walk.walk { front = c.advance_in.new.part }) (Some (Ok tt)) c.open_next.new.walk = rw c.in-Some-Ok.field-0-is at c.in-Some-Ok.ensures in
    rw opens.2 (comes_on c.args.walk.now c.loop-walk.walk c.advance_in.new.part c.loop-walk.invariant none step.lends c.open_next.new.walk.parts opens.0 opens.1)

pub loop-walk-smaller : goal.loop-walk-smaller
loop-walk-smaller g c =
    let opens : OpensNext (record c.loop-walk.walk { front = c.advance_in.new.part }) (Some (Ok tt)) c.open_next.new.walk = rw c.in-Some-Ok.field-0-is at c.in-Some-Ok.ensures in
    smaller range_remains coming_tables KeepsTables Front c.loop-walk.walk.parts c.open_next.new.walk.parts opens.0 opens.1

pub returns-in-Some-Err-clause-takes : goal.returns-in-Some-Err-clause-takes
returns-in-Some-Err-clause-takes g c =
    let step = c.in_ok-advance_in.ensures in
    let none = none_there _ (sym step.more ∙ c.if-branch.false) in
    let opens : OpensNext (record c.loop-walk.walk { front = c.advance_in.new.part }) (Some (Err c.in-Some-Err.error)) c.open_next.new.walk = rw c.in-Some-Err.field-0-is at c.in-Some-Err.ensures in
    rw opens.1 ((lends_fault c.args.walk.now c.loop-walk.walk c.advance_in.new.part c.loop-walk.invariant none step.lends c.open_next.new.walk.parts c.in-Some-Err.error opens.0).takes)

pub returns-in-Some-Err-clause-there : goal.returns-in-Some-Err-clause-there
returns-in-Some-Err-clause-there g c =
    let step = c.in_ok-advance_in.ensures in
    let none = none_there _ (sym step.more ∙ c.if-branch.false) in
    let opens : OpensNext (record c.loop-walk.walk { front = c.advance_in.new.part }) (Some (Err c.in-Some-Err.error)) c.open_next.new.walk = rw c.in-Some-Err.field-0-is at c.in-Some-Err.ensures in
    ((lends_fault c.args.walk.now c.loop-walk.walk c.advance_in.new.part c.loop-walk.invariant none step.lends c.open_next.new.walk.parts c.in-Some-Err.error opens.0).there)

pub returns-in-None-clause-takes : goal.returns-in-None-clause-takes
returns-in-None-clause-takes g c =
    let step = c.in_ok-advance_in.ensures in
    let none = none_there _ (sym step.more ∙ c.if-branch.false) in
    let last = c.advance_last.ensures in
    let opens = c.in-None.ensures in
    (lends_last c.args.walk.now c.loop-walk.walk c.advance_in.new.part c.loop-walk.invariant none step.lends c.open_next.new.walk c.advance_last.new.walk c.advance_last.result opens.0 opens.1 last.is last.lends).takes

pub returns-in-None-clause-there : goal.returns-in-None-clause-there
returns-in-None-clause-there g c =
    let step = c.in_ok-advance_in.ensures in
    let none = none_there _ (sym step.more ∙ c.if-branch.false) in
    let last = c.advance_last.ensures in
    let opens = c.in-None.ensures in
    (lends_last c.args.walk.now c.loop-walk.walk c.advance_in.new.part c.loop-walk.invariant none step.lends c.open_next.new.walk c.advance_last.new.walk c.advance_last.result opens.0 opens.1 last.is last.lends).there

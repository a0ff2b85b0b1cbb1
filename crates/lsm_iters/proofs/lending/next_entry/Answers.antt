use Rattle.std.specs.Prelude.{Option, Some, Ok, Err}
use Rattle.std.specs.Option.{option_map}
use Rattle.sst_entries.specs.Entry.{Entry}
use Rattle.sst_entries.specs.Lending.{came}
use Rattle.std.proofs.Common.{refl}
use Rattle.lsm_iters.specs.walk.Walks.{near}
use Rattle.lsm_iters.specs.Blocks.{lent_at, range_at}
use Rattle.lsm_iters.specs.Lending.{lent_in}
use Rattle.lsm_iters.proofs.Lent.{came_on, ends_err, ends_ok, steps_by, steps_fault, steps_refused}
use Rattle.lsm_iters.proofs.Ranges.{R, none_on}
use Rattle.lsm_iters.proofs.lending.next_entry.Goals as goal

pub returns-in-Err-clause-err : goal.returns-in-Err-clause-err
returns-in-Err-clause-err g c l =
    let done = c.initialize.ensures in
    steps_refused c.args.at l c.args.walk.now c.initialize.new.self done.is done.none done.sought c.in-Err.refusal c.in-Err.ensures.err c.in-Err.ensures.once

pub returns-clause-ok : goal.returns-clause-ok
returns-clause-ok g c l =
    let at = c.args.at in
    let done = c.initialize.ensures in
    let n = c.step.new.walk in
    let r : Option R = option_map (λ (e : Entry). Ok e) (lent_in (near at n)) in
    ends_ok at l c.args.walk.now n c.lends.result (steps_by at l c.args.walk.now c.initialize.new.self done.is done.none done.sought n r (came c.lends.result (lent_at at n)) c.in_default.ensures.ok (record { takes = c.in_default-step.ensures.takes; there = c.in_default-step.ensures.there }) c.lends.ensures.lifted (came_on c.lends.result (range_at at n)))

pub returns-clause-err : goal.returns-clause-err
returns-clause-err g c l =
    let at = c.args.at in
    let done = c.initialize.ensures in
    let n = c.step.new.walk in
    let r : Option R = option_map (λ (e : Entry). Ok e) (lent_in (near at n)) in
    ends_err at l c.args.walk.now n c.lends.result (steps_by at l c.args.walk.now c.initialize.new.self done.is done.none done.sought n r (came c.lends.result (lent_at at n)) c.in_default.ensures.ok (record { takes = c.in_default-step.ensures.takes; there = c.in_default-step.ensures.there }) c.lends.ensures.lifted (came_on c.lends.result (range_at at n)))

pub returns-in-Err-step-clause-err : goal.returns-in-Err-step-clause-err
returns-in-Err-step-clause-err g c l =
    let at = c.args.at in
    let done = c.initialize.ensures in
    let n = c.step.new.walk in
    let r : Option R = Some (Err c.in-Err-step.error) in
    steps_fault at l c.args.walk.now n c.in-Err-step.error (steps_by at l c.args.walk.now c.initialize.new.self done.is done.none done.sought n r r c.in_default.ensures.ok (record { takes = c.in-Err-step.ensures.takes; there = c.in-Err-step.ensures.there }) refl (none_on r))

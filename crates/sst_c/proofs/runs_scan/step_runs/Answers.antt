use Rattle.std.proofs.Common.{◌∙◌, Err, Ok, Some, refl, sym, true}
use Rattle.sst_entries.specs.Lending.{came}
use Rattle.sst_c.proofs.Asking.{same_source}
use Rattle.sst_c.proofs.Lending.{stays_behind}
use Rattle.sst_c.proofs.Scanning.{lent_comes}
use Rattle.sst_c.specs.Newest.{newest_lent}
use Rattle.sst_c.specs.Reported.{outcome_of}
use Rattle.sst_c.proofs.runs_scan.step_runs.Goals as goal

-- what is lent after a step is what the step found
pub returns-in-Ok-clause-steps : goal.returns-in-Ok-clause-steps
returns-in-Ok-clause-steps c s same =
    let one = same_source c.args.scan.now c.in-Some.source s c.in-Some.is same in
    let t = c.advance.new.self in
    let lent = newest_lent t in
    let comes = lent_comes lent true in
    rw (sym one) (
      outcome_of (came (Ok true) lent),
      (came (Ok true) lent, t, c.in-Ok.ensures.goes, refl, stays_behind t lent),
      comes.0,
      comes.1,
    )

pub returns-in-Err-clause-steps : goal.returns-in-Err-clause-steps
returns-in-Err-clause-steps c s same =
    let one = same_source c.args.scan.now c.in-Some.source s c.in-Some.is same in
    let e = c.in-Err.error in
    rw (sym one, c.give_up.ensures)
    (Err e, (Some (Err e), c.advance.new.self, c.in-Err.ensures.goes, refl, refl), c.from.ensures ∙ c.number.ensures, refl)

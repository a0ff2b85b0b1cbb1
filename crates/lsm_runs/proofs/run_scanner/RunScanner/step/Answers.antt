use Rattle.std.proofs.Common.{◌≡◌, ◌∙◌, List, ap, sym, subst}
use Rattle.std.specs.Prelude.{Option, Some, None, Ok, false, is_some}
use Rattle.std.proofs.lemmas.Result.{err_from_is_err_and}
use Rattle.sst_entries.specs.Entry.{Entry}
use Rattle.sst_entries.specs.Lending.{came}
use Rattle.lsm_readers.specs.point.Table.{OpenTable}
use Rattle.lsm_runs.specs.RunScan.{RunScan, RunScansNext, lent_of_run}
use Rattle.lsm_runs.proofs.ScanSteps.{Reached, fault, kept, lent_item, none_came, none_lent, opened, refusal, rest, starts}
use Rattle.lsm_runs.proofs.run_scanner.RunScanner.step.Goals as goal

pub loop-self-init : goal.loop-self-init
loop-self-init g c = starts c.args.self.now

pub returns-in_err-advance_in-clause-err : goal.returns-in_err-advance_in-clause-err
returns-in_err-advance_in-clause-err g c =
    let s = c.args.self.now in
    let p = err_from_is_err_and c.from_residual.result c.from_residual.ensures.1 in
    rw (p.1, p.2) (refusal s _ s c.in_err-advance_in.field-0.0 c.advance_in.new.reader (subst (Reached s) (sym c.self.view_is) c.loop-self.invariant) c.in_err-advance_in.ensures.goes)

pub returns-then-branch-clause-ok : goal.returns-then-branch-clause-ok
returns-then-branch-clause-ok g c =
    let s = c.args.self.now in
    let step = c.in_ok-advance_in.ensures in
    (sym c.if-branch.true ∙ step.more, lent_item s _ c.advance_in.new.reader c.if-branch.true (subst (Reached s) (sym c.self.view_is) c.loop-self.invariant) step.more step.goes)

pub loop-self-preserved-in-Some-Ok : goal.loop-self-preserved-in-Some-Ok
loop-self-preserved-in-Some-Ok g c =
    let s = c.args.self.now in
    let o = c.advance_in.new.reader in
    let none = none_came _ o c.if-branch.false c.in_ok-advance_in.ensures.more c.in_ok-advance_in.ensures.goes in
    let there = kept s _ o (subst (Reached s) (sym c.self.view_is) c.loop-self.invariant) none in
    subst (λ (ts : List OpenTable). Reached s (record { scan = Some c.in-Some-Ok.reader; tables = ts })) (sym (ap (λ (u : RunScan). u.tables) c.self-in-loop-self.view_is))
    (opened s _ c.in-Some-Ok.reader c.next_table.new.self there none.lowers (rw c.in-Some-Ok.field-0-is at c.in-Some-Ok.ensures))

pub returns-in-Some-Err-clause-err : goal.returns-in-Some-Err-clause-err
returns-in-Some-Err-clause-err g c =
    let s = c.args.self.now in
    let o = c.advance_in.new.reader in
    let none = none_came _ o c.if-branch.false c.in_ok-advance_in.ensures.more c.in_ok-advance_in.ensures.goes in
    let there = kept s _ o (subst (Reached s) (sym c.self.view_is) c.loop-self.invariant) none in
    fault s _ c.in-Some-Err.error c.next_table.new.self there none.lowers (rw c.in-Some-Err.field-0-is at c.in-Some-Err.ensures)

pub returns-in-None-clause-ok : goal.returns-in-None-clause-ok
returns-in-None-clause-ok g c =
    let s = c.args.self.now in
    let o = c.advance_in.new.reader in
    let w = c.next_table.new.self in
    let none = none_came _ o c.if-branch.false c.in_ok-advance_in.ensures.more c.in_ok-advance_in.ensures.goes in
    let there = kept s _ o (subst (Reached s) (sym c.self.view_is) c.loop-self.invariant) none in
    let gone : lent_of_run w ≡ None = ap lent_of_run c.in-None.ensures.1 ∙ none_lent o c.if-branch.false c.in_ok-advance_in.ensures.more in
    (sym (ap is_some gone), subst (λ (l : Option Entry). RunScansNext s (came (Ok false) l) w) (sym gone) (rest s _ w there none.lowers c.in-None.ensures))

use Rattle.std.proofs.Common.{◌≡◌, ◌∙◌, true, false, ap, sym, subst}
use Rattle.std.specs.Prelude.{Bool, Option, Ok, Err, Result}
use Rattle.std.proofs.lemmas.Result.{err_from_is_err_and}
use Rattle.sst_entries.specs.Entry.{Entry}
use Rattle.sst_entries.specs.Lending.{came}
use Rattle.sst_entries.specs.declared.error.Error.{Error}
use Rattle.lsm_readers.specs.Scan.{ScansLent}
use Rattle.lsm_readers.proofs.Scans.{Reached, at_end, lent_falls, reached_next, scans_entry, scans_fault, scans_none}
use Rattle.lsm_readers.proofs.scanner.ScannerLending.advance.Goals as goal

pub returns-in_err-next_entry-clause-goes : goal.returns-in_err-next_entry-clause-goes
returns-in_err-next_entry-clause-goes g c =
    let p = err_from_is_err_and c.from_residual.result c.from_residual.ensures.1 in
    let f = c.in_err-next_entry.field-0.0 in
    rw (p.1, p.2) (scans_entry c.args.self.now c.loop-self.self c.next_entry.new.self (Err f) c.loop-self.invariant c.in_err-next_entry.ensures (λ h. let wrong : ◌≡◌ {A = Result Bool Error} (Err f) (Ok false) = h in cc))

pub returns-in_err-next_entry-clause-lowers : goal.returns-in_err-next_entry-clause-lowers
returns-in_err-next_entry-clause-lowers g c = lent_falls c.args.self.now c.next_entry.new.self (came c.from_residual.result c.next_entry.new.self.lent) (returns-in_err-next_entry-clause-goes g c)

pub returns-then-branch-clause-goes : goal.returns-then-branch-clause-goes
returns-then-branch-clause-goes g c =
    let more = c.in_ok-next_entry.field-0 in
    scans_entry c.args.self.now c.loop-self.self c.next_entry.new.self (Ok more) c.loop-self.invariant c.in_ok-next_entry.ensures (λ h. let wrong : ◌≡◌ {A = Result Bool Error} (Ok true) (Ok false) = ap (λ (b : Bool). Ok b) (sym c.if-branch.true) ∙ h in cc)

pub returns-then-branch-clause-lowers : goal.returns-then-branch-clause-lowers
returns-then-branch-clause-lowers g c = lent_falls c.args.self.now c.next_entry.new.self (came (Ok true) c.next_entry.new.self.lent) (returns-then-branch-clause-goes g c)

pub returns-then-not-has_block-clause-goes : goal.returns-then-not-has_block-clause-goes
returns-then-not-has_block-clause-goes g c =
    let s = c.args.self.now in
    let t = c.next_entry.new.self in
    let end = at_end s c.loop-self.self t (Ok c.in_ok-next_entry.field-0) c.loop-self.invariant c.in_ok-next_entry.ensures (ap (λ (b : Bool). Ok b) c.if-branch.false) in
    subst (λ (o : Option Entry). ScansLent s (came (Ok false) o) t) (sym end.lent)
    (scans_none s t end (λ more. let no : true ≡ false = sym (c.has_block.ensures.1 more) ∙ c.if-not-has_block.true in cc))

pub returns-then-not-has_block-clause-lowers : goal.returns-then-not-has_block-clause-lowers
returns-then-not-has_block-clause-lowers g c = lent_falls c.args.self.now c.next_entry.new.self (came (Ok false) c.next_entry.new.self.lent) (returns-then-not-has_block-clause-goes g c)

pub loop-self-preserved : goal.loop-self-preserved
loop-self-preserved g c =
    let s = c.args.self.now in
    let t = c.next_entry.new.self in
    let end = at_end s c.loop-self.self t (Ok c.in_ok-next_entry.field-0) c.loop-self.invariant c.in_ok-next_entry.ensures (ap (λ (b : Bool). Ok b) c.if-branch.false) in
    let block = c.in_ok-next_block.ensures.ok in
    subst (Reached s) (sym block.3) (reached_next s t block.0 block.1 end.reached end.none (c.has_block.ensures.0 c.if-not-has_block.false) block.2 c.in_ok-next_block.ensures.early)

pub returns-in_err-next_block-clause-goes : goal.returns-in_err-next_block-clause-goes
returns-in_err-next_block-clause-goes g c =
    let s = c.args.self.now in
    let t = c.next_entry.new.self in
    let p = err_from_is_err_and c.from_residual-in_err-next_block.result c.from_residual-in_err-next_block.ensures.1 in
    let end = at_end s c.loop-self.self t (Ok c.in_ok-next_entry.field-0) c.loop-self.invariant c.in_ok-next_entry.ensures (ap (λ (b : Bool). Ok b) c.if-branch.false) in
    let block = c.in_err-next_block.ensures in
    rw (p.1, p.2) (scans_fault s t c.next_block.new.self c.in_err-next_block.field-0.0 end.reached end.none (c.has_block.ensures.0 c.if-not-has_block.false) block.refused block.early block.err)

pub returns-in_err-next_block-clause-lowers : goal.returns-in_err-next_block-clause-lowers
returns-in_err-next_block-clause-lowers g c = lent_falls c.args.self.now c.next_block.new.self (came c.from_residual-in_err-next_block.result c.next_block.new.self.lent) (returns-in_err-next_block-clause-goes g c)

use Rattle.std.proofs.Common.{◌≡◌, ◌∙◌, true, false, Bool, List, ap, sym, subst, refl}
use Rattle.std.specs.Prelude.{None, Ok, Err, Result}
use Rattle.std.proofs.lemmas.Result.{err_from_is_err_and}
use Rattle.sst_entries.specs.Entry.{Entry}
use Rattle.sst_entries.specs.declared.error.Error.{Error}
use Rattle.lsm_readers.specs.Scan.{IsEndedScan, Scan, scan_left}
use Rattle.lsm_files.specs.declared.error.FileError.{FileError}
use Rattle.lsm_files.specs.Results.{FileGives}
use Rattle.lsm_files.specs.Scan.{next_of, rest_of, table_error}
use Rattle.lsm_files.proofs.FileCounts.{arrived, block_counted, block_needed, entry_counted, next_counted, none_counted, over_counted, stopped_counted}
use Rattle.lsm_files.proofs.FileScans.{entry_came, error_ends, exact_error, no_block, no_entry, on_block, over, some_lent}
use Rattle.lsm_files.proofs.scanner.FileScanner.advance.Goals as goal

more_or : (more : Bool) → more ≡ true → (r : Result Bool FileError) → r ≡ Ok more → r ≡ Ok false → ⊥
more_or more some r is stop = let wrong : Ok true ≡ Ok false = ap (λ (b : Bool). Ok b) (sym some) ∙ sym is ∙ stop in absurd cc

pub returns-in_err-next_entry-clause-returned : goal.returns-in_err-next_entry-clause-returned
returns-in_err-next_entry-clause-returned g c known =
    let p = err_from_is_err_and c.from_residual.result c.from_residual.ensures.1 in
    let f = c.in_err-next_entry.field-0.0 in
    let t = c.next_entry.new.self in
    let step = entry_came g.R.ReadAt.reads c.loop-self.self (Err f) t c.in_err-next_entry.ensures (λ h. let wrong : ◌≡◌ {A = Result Bool FileError} (Err f) (Ok false) = h in cc) in
    rw (p.1, p.2) (subst (λ (rs : List (Result Entry Error)). FileGives {X = Bool} g.R.ReadAt.reads (λ _. t.lent) (Err f) (next_of rs)) (c.loop-self.invariant.left known) step.0)

pub returns-in_err-next_entry-clause-ended : goal.returns-in_err-next_entry-clause-ended
returns-in_err-next_entry-clause-ended g c =
    let p = err_from_is_err_and c.from_residual.result c.from_residual.ensures.1 in
    let f = c.in_err-next_entry.field-0.0 in
    rw p.1 (subst IsEndedScan (sym (error_ends c.loop-self.self c.next_entry.new.self f c.in_err-next_entry.ensures)) (refl, refl))

pub returns-in_err-next_entry-clause-none : goal.returns-in_err-next_entry-clause-none
returns-in_err-next_entry-clause-none g c =
    let p = err_from_is_err_and c.from_residual.result c.from_residual.ensures.1 in
    let f = c.in_err-next_entry.field-0.0 in
    rw p.1 (subst (λ (s : Scan). s.lent ≡ None) (sym (error_ends c.loop-self.self c.next_entry.new.self f c.in_err-next_entry.ensures)) refl)

pub returns-then-branch-clause-returned : goal.returns-then-branch-clause-returned
returns-then-branch-clause-returned g c known =
    let more = c.in_ok-next_entry.field-0 in
    let step = entry_came g.R.ReadAt.reads c.loop-self.self (Ok more) c.next_entry.new.self c.in_ok-next_entry.ensures (more_or more c.if-branch.true (Ok more) refl) in
    ap next_of (sym (c.loop-self.invariant.left known)) ∙ step.0

pub returns-then-branch-clause-left : goal.returns-then-branch-clause-left
returns-then-branch-clause-left g c known =
    let more = c.in_ok-next_entry.field-0 in
    let step = entry_came g.R.ReadAt.reads c.loop-self.self (Ok more) c.next_entry.new.self c.in_ok-next_entry.ensures (more_or more c.if-branch.true (Ok more) refl) in
    step.1 ∙ ap rest_of (c.loop-self.invariant.left known)

pub returns-then-branch-clause-more : goal.returns-then-branch-clause-more
returns-then-branch-clause-more g c = some_lent c.loop-self.self c.next_entry.new.self c.in_ok-next_entry.field-0 c.in_ok-next_entry.ensures c.if-branch.true

pub returns-then-not-has_block-clause-returned : goal.returns-then-not-has_block-clause-returned
returns-then-not-has_block-clause-returned g c known =
    let u = c.loop-self.self in
    let t = c.next_entry.new.self in
    let end = no_entry u t (Ok c.in_ok-next_entry.field-0) c.in_ok-next_entry.ensures (ap arrived c.if-branch.false) in
    let none = over c.args.self.now u t (c.loop-self.invariant.left known) end.0 end.1 (λ more. let never : true ≡ false = sym (c.has_block.ensures.1 more) ∙ c.if-not-has_block.true in cc) in
    ap next_of none ∙ ap (λ (v : Scan). Ok v.lent) (sym end.1)

pub returns-then-not-has_block-clause-left : goal.returns-then-not-has_block-clause-left
returns-then-not-has_block-clause-left g c known =
    let u = c.loop-self.self in
    let t = c.next_entry.new.self in
    let end = no_entry u t (Ok c.in_ok-next_entry.field-0) c.in_ok-next_entry.ensures (ap arrived c.if-branch.false) in
    let left = c.loop-self.invariant.left known in
    let none = over c.args.self.now u t left end.0 end.1 (λ more. let never : true ≡ false = sym (c.has_block.ensures.1 more) ∙ c.if-not-has_block.true in cc) in
    ap (λ (v : Scan). scan_left v) end.1 ∙ left ∙ none ∙ ap rest_of (sym none)

pub returns-then-not-has_block-clause-more : goal.returns-then-not-has_block-clause-more
returns-then-not-has_block-clause-more g c =
    let end = no_entry c.loop-self.self c.next_entry.new.self (Ok c.in_ok-next_entry.field-0) c.in_ok-next_entry.ensures (ap arrived c.if-branch.false) in
    rw end.1 refl

pub loop-self-init : goal.loop-self-init
loop-self-init g c = record { left = λ known. refl; counted = λ known. none_counted c.args.self.now }

pub loop-self-preserved : goal.loop-self-preserved
loop-self-preserved g c =
    let u = c.loop-self.self in
    let t = c.next_entry.new.self in
    let v = c.next_block.new.self in
    let end = no_entry u t (Ok c.in_ok-next_entry.field-0) c.in_ok-next_entry.ensures (ap arrived c.if-branch.false) in
    let some = c.has_block.ensures.0 c.if-not-has_block.false in
    record {
      left = λ known. on_block c.args.self.now u t v (c.loop-self.invariant.left known) end.0 end.1 some
          (c.in_ok-next_block.ensures.returned known) (ap (λ (w : Scan). scan_left w) c.in_ok-next_block.ensures.ok);
      counted = λ known. next_counted c.args.self.now u t v (c.loop-self.invariant.counted known) end.0 end.1 some
          (c.in_ok-next_block.ensures.returned known) c.in_ok-next_block.ensures.ok;
    }

pub returns-in_err-next_block-clause-returned : goal.returns-in_err-next_block-clause-returned
returns-in_err-next_block-clause-returned g c known =
    let u = c.loop-self.self in
    let t = c.next_entry.new.self in
    let v = c.next_block.new.self in
    let p = err_from_is_err_and c.from_residual-in_err-next_block.result c.from_residual-in_err-next_block.ensures.1 in
    let end = no_entry u t (Ok c.in_ok-next_entry.field-0) c.in_ok-next_entry.ensures (ap arrived c.if-branch.false) in
    rw (p.1, p.2) (no_block {X = Unit {0}} {Y = Bool} g.R.ReadAt.reads (λ _. (v.entries, v.position)) (λ _. v.lent) c.args.self.now u t c.in_err-next_block.field-0.0
    (c.loop-self.invariant.left known) end.0 end.1 (c.has_block.ensures.0 c.if-not-has_block.false) (c.in_err-next_block.ensures.returned known))

pub returns-then-branch-clause-counted : goal.returns-then-branch-clause-counted
returns-then-branch-clause-counted g c known =
    entry_counted c.args.self.now c.loop-self.self c.next_entry.new.self c.in_ok-next_entry.field-0 (c.loop-self.invariant.counted known) c.in_ok-next_entry.ensures c.if-branch.true

pub returns-then-not-has_block-clause-counted : goal.returns-then-not-has_block-clause-counted
returns-then-not-has_block-clause-counted g c known =
    let u = c.loop-self.self in
    let t = c.next_entry.new.self in
    let end = no_entry u t (Ok c.in_ok-next_entry.field-0) c.in_ok-next_entry.ensures (ap arrived c.if-branch.false) in
    over_counted c.args.self.now u t (c.loop-self.invariant.counted known) end.0 end.1 (λ more. let never : true ≡ false = sym (c.has_block.ensures.1 more) ∙ c.if-not-has_block.true in cc)

pub returns-in_err-next_entry-clause-begun : goal.returns-in_err-next_entry-clause-begun
returns-in_err-next_entry-clause-begun g c known =
    let p = err_from_is_err_and c.from_residual.result c.from_residual.ensures.1 in
    rw p.1 (stopped_counted c.args.self.now c.loop-self.self c.next_entry.new.self c.in_err-next_entry.field-0.0 (c.loop-self.invariant.counted known) c.in_err-next_entry.ensures)

pub returns-in_err-next_entry-clause-calm : goal.returns-in_err-next_entry-clause-calm
returns-in_err-next_entry-clause-calm g c known none =
    let p = err_from_is_err_and c.from_residual.result c.from_residual.ensures.1 in
    let exact = exact_error c.loop-self.self c.next_entry.new.self c.in_err-next_entry.field-0.0 c.in_err-next_entry.ensures in
    rw (p.1, p.2) (ap (λ (rs : List (Result Entry Error)). table_error (next_of rs)) (sym (c.loop-self.invariant.left known)) ∙ exact)

pub returns-in_err-next_block-clause-begun : goal.returns-in_err-next_block-clause-begun
returns-in_err-next_block-clause-begun g c known =
    let p = err_from_is_err_and c.from_residual-in_err-next_block.result c.from_residual-in_err-next_block.ensures.1 in
    let u = c.loop-self.self in
    let t = c.next_entry.new.self in
    let v = c.next_block.new.self in
    let end = no_entry u t (Ok c.in_ok-next_entry.field-0) c.in_ok-next_entry.ensures (ap arrived c.if-branch.false) in
    rw p.1 (block_counted c.args.self.now u t v (c.loop-self.invariant.counted known) end.0 end.1 (c.has_block.ensures.0 c.if-not-has_block.false) (ap (λ (w : Scan). w.opened) c.in_err-next_block.ensures.err))

pub returns-in_err-next_block-clause-calm : goal.returns-in_err-next_block-clause-calm
returns-in_err-next_block-clause-calm g c known zero =
    let u = c.loop-self.self in
    let t = c.next_entry.new.self in
    let end = no_entry u t (Ok c.in_ok-next_entry.field-0) c.in_ok-next_entry.ensures (ap arrived c.if-branch.false) in
    absurd (block_needed c.args.self.now u t (c.loop-self.invariant.counted known) end.0 end.1 (c.has_block.ensures.0 c.if-not-has_block.false) zero)

use Rattle.std.specs.Prelude.{Err, IfErr, Ok}
use Rattle.std.proofs.Common.{◌≡◌, ap, subst, sym, ◌∙◌}
use Rattle.sst_blocks.specs.Sections.{body_of}
use Rattle.lsm_readers.specs.Findings.{IsFirstFinding}
use Rattle.lsm_readers.specs.point.Table.{IsOpen, OpenTable}
use Rattle.lsm_readers.specs.Verify.{FindsFirst, Misses, table_found}
use Rattle.lsm_readers.specs.Verification.{Verifying, next_found, step_early}
use Rattle.lsm_readers.specs.declared.verify.Finding.{Finding}
use Rattle.lsm_readers.specs.declared.verify.Verified.{Verified}
use Rattle.lsm_readers.specs.declared.verify.VerifyError.TheVariants.{Found, OutOfMemory}
use Rattle.lsm_readers.proofs.VerifyEarly.{passes_first}
use Rattle.lsm_readers.proofs.VerifySteps.{answer}
use Rattle.lsm_readers.proofs.VerifyTables.{all_complete, all_first, all_valid}
use Rattle.lsm_readers.proofs.Verifications.{refuses, refuses_with}
use Rattle.lsm_readers.proofs.table.verification.Verification.step.Goals as goal

pub returns-in_err-read_next-clause-first : goal.returns-in_err-read_next-clause-first
returns-in_err-read_next-clause-first g c =
    let e = c.in_err-read_next.field-0.0 in
    let shown = ap (λ (v : Verifying). v.table) c.self.view_is in
    let misses = subst (λ (t : OpenTable). Misses e (table_found (body_of t.bytes) t.parts)) shown
    (λ f found. sym c.self.invariant ∙ c.in_err-read_next.ensures.refused f found) in
    refuses_with (λ e. (f : Finding) → e ≡ Found f →
    IsFirstFinding (body_of c.args.self.now.table.bytes) c.args.self.now.table.parts f)
    c.from_residual.result e c.from_residual.ensures.1
    (all_first c.args.self.now.table (Err e) misses)

pub returns-in_err-read_next-clause-complete : goal.returns-in_err-read_next-clause-complete
returns-in_err-read_next-clause-complete g c = λ es stored.
    let e = c.in_err-read_next.field-0.0 in
    let shown = ap (λ (v : Verifying). v.table) c.self.view_is in
    let misses = subst (λ (t : OpenTable). Misses e (table_found (body_of t.bytes) t.parts)) shown
    (λ f found. sym c.self.invariant ∙ c.in_err-read_next.ensures.refused f found) in
    let held = subst IsOpen shown c.read_next.ensures.open in
    refuses_with (λ e. e ≡ OutOfMemory) c.from_residual.result e c.from_residual.ensures.1
    (all_complete c.args.self.now.table held (Err e) misses es stored)

pub returns-then-branch-clause-sound : goal.returns-then-branch-clause-sound
returns-then-branch-clause-sound g c =
    let shown = ap (λ (v : Verifying). v.table) c.self.view_is in
    let ends = c.in_ok-read_next.ensures.ends c.if-branch.true in
    let returned = sym c.self.invariant ∙ ends.rest
    ∙ ap (λ (v : Verified). answer v) (sym c.says.ensures) in
    let held = subst IsOpen shown c.read_next.ensures.open in
    all_valid c.args.self.now.table held (Ok c.says.result)
    (subst (λ (t : OpenTable). table_found (body_of t.bytes) t.parts ≡ answer c.says.result) shown
    returned)

pub returns-in_err-read_next-clause-early : goal.returns-in_err-read_next-clause-early
returns-in_err-read_next-clause-early g c =
    let passed = c.from_residual.result in
    subst (λ (v : Verifying). FindsFirst passed
    (step_early (body_of v.table.bytes) v.table.parts v.ahead v.left)) c.self.view_is
    (passes_first passed c.in_err-read_next.field-0.0 _ c.from_residual.ensures.1
    c.in_err-read_next.ensures.early)

pub returns-in_err-read_next-clause-next : goal.returns-in_err-read_next-clause-next
returns-in_err-read_next-clause-next g c =
    let passed = c.from_residual.result in
    subst (λ (v : Verifying). IfErr passed (λ e.
    Misses e (next_found (body_of v.table.bytes) v.table.parts v.ahead v.left))) c.self.view_is
    (refuses passed c.in_err-read_next.field-0.0 _ c.from_residual.ensures.1
    c.in_err-read_next.ensures.next)

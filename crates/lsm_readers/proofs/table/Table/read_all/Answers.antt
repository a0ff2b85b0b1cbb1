use Rattle.std.proofs.Common.{◌∙◌, ap, arith, sym}
use Rattle.sst_blocks.specs.Sections.{body_of}
use Rattle.lsm_readers.specs.declared.verify.Verified.{Verified}
use Rattle.lsm_readers.specs.Verify.{table_found}
use Rattle.lsm_readers.proofs.VerifyEarly.{first_step, passes_first}
use Rattle.lsm_readers.proofs.VerifyLoops.{passes}
use Rattle.lsm_readers.proofs.VerifySteps.{answer}
use Rattle.lsm_readers.proofs.Verifications.{at_start}
use Rattle.lsm_readers.proofs.table.Table.read_all.Goals as goal

pub loop-left-init : goal.loop-left-init
loop-left-init g c =
    let t = c.args.self.now in
    let body = body_of t.bytes in
    rw (c.start-stage.ensures t.parts, c.unread-left.ensures) (record {
      rest = at_start body t.parts;
      early = λ f found. first_step body t.parts _ ∙ found;
    })

pub loop-left-preserved : goal.loop-left-preserved
loop-left-preserved g c =
    let before = c.loop-left.invariant in
    let one = c.in_ok-read_next.ensures in
    record {
      rest = (one.goes c.if-branch.false).rest ∙ before.rest;
      early = λ f found. absurd (one.early f (before.early f found));
    }

pub loop-left-smaller : goal.loop-left-smaller
loop-left-smaller g c =
    let steps = (c.in_ok-read_next.ensures.goes c.if-branch.false).steps in
    omega (arith, steps)

pub returns-in_err-read_next-clause-returned : goal.returns-in_err-read_next-clause-returned
returns-in_err-read_next-clause-returned g c =
    let t = c.args.self.now in
    passes (λ (v : Verified). v) c.from_residual.result (table_found (body_of t.bytes) t.parts)
    c.in_err-read_next.field-0.0 c.from_residual.ensures.1
    (λ f found. sym c.loop-left.invariant.rest ∙ c.in_err-read_next.ensures.refused f found)

pub returns-in_err-read_next-clause-early : goal.returns-in_err-read_next-clause-early
returns-in_err-read_next-clause-early g c =
    passes_first c.from_residual.result c.in_err-read_next.field-0.0 _ c.from_residual.ensures.1
    (λ f found. c.in_err-read_next.ensures.early f (c.loop-left.invariant.early f found))

pub returns-then-branch-clause-returned : goal.returns-then-branch-clause-returned
returns-then-branch-clause-returned g c =
    sym c.loop-left.invariant.rest ∙ (c.in_ok-read_next.ensures.ends c.if-branch.true).rest
    ∙ ap (λ (v : Verified). answer v) (sym c.says.ensures)

pub returns-then-branch-clause-early : goal.returns-then-branch-clause-early
returns-then-branch-clause-early g c = λ f found.
    absurd (c.in_ok-read_next.ensures.early f (c.loop-left.invariant.early f found))

use Rattle.std.proofs.Common.{List, false, ap, subst, sym, ◌∙◌}
use Rattle.std.specs.Prelude.{Ok}
use Rattle.sst_blocks.specs.Sections.{body_of}
use Rattle.sst_blocks.specs.Handle.{Handle}
use Rattle.lsm_readers.specs.point.Table.{parts_of}
use Rattle.lsm_readers.specs.Verification.{GoesOne, in_index, next_found, rest_found}
use Rattle.lsm_readers.proofs.VerifyEarly.{early_block, early_part, passes_first, some_first}
use Rattle.lsm_readers.proofs.Verifications.{at_none, at_some, block_goes, block_misses}
use Rattle.lsm_readers.proofs.Verifications.{end_misses, ends_here, next_block, next_misses}
use Rattle.lsm_readers.proofs.Verifications.{next_part, part_goes, refuses}
use Rattle.lsm_readers.proofs.verify.steps.step_index.Goals as goal

pub returns-in_err-step_block-clause-refused : goal.returns-in_err-step_block-clause-refused
returns-in_err-step_block-clause-refused g c =
    let parts = parts_of c.args.inner.now in
    let body = body_of c.args.source.now in
    let ahead = in_index c.args.handles.now c.args.tops.now in
    let e = c.in_err-step_block.field-0.0 in
    refuses c.from_residual.result e (rest_found body parts ahead c.args.left.now)
    c.from_residual.ensures.1
    (block_misses body parts c.args.handles.now c.args.tops.now c.args.left.now e
    c.in_err-step_block.ensures.refused)

pub returns-then-branch-clause-goes : goal.returns-then-branch-clause-goes
returns-then-branch-clause-goes g c = λ no.
    let parts = parts_of c.args.inner.now in
    let body = body_of c.args.source.now in
    let tops = c.args.tops.now in
    let left = c.args.left.now in
    let behind = c.step_block.new.handles in
    let next = c.step_block.new.left in
    let read = c.in_ok-step_block.ensures.read c.if-branch.true in
    subst (λ (hs : List Handle). GoesOne body parts (in_index hs tops) left (in_index behind tops)
    next) (sym read.1) (block_goes body parts read.0 behind tops left next read.2)

pub returns-in_err-block-clause-refused : goal.returns-in_err-block-clause-refused
returns-in_err-block-clause-refused g c =
    let parts = parts_of c.args.inner.now in
    let body = body_of c.args.source.now in
    let tops = c.args.tops.now in
    let left = c.args.left.now in
    let e = c.in_err-block.field-0.0 in
    let passed = c.from_residual-in_err-block in
    let none = c.in_ok-step_block.ensures.none c.if-branch.false in
    refuses passed.result e (rest_found body parts (in_index c.args.handles.now tops) left)
    passed.ensures.1
    (λ f found. ap (λ (hs : List Handle). rest_found body parts (in_index hs tops) left) none.0
    ∙ next_misses body parts tops left e c.in_err-block.ensures.calm
    c.in_err-block.ensures.refused f found)

pub returns-in_err-test_left-in-None-clause-refused :
    goal.returns-in_err-test_left-in-None-clause-refused
returns-in_err-test_left-in-None-clause-refused g c =
    let parts = parts_of c.args.inner.now in
    let body = body_of c.args.source.now in
    let e = c.in_err-test_left-in-None.field-0.0 in
    let passed = c.from_residual-in_err-test_left-in-None in
    let none = c.in_ok-step_block.ensures.none c.if-branch.false in
    let last = at_none _ c.in_ok-block.field-0 c.in_ok-block.ensures.none c.in-None.is in
    let ahead = in_index c.args.handles.now c.args.tops.now in
    refuses passed.result e (rest_found body parts ahead c.args.left.now) passed.ensures.1
    (rw (none.0, last.0, sym none.2)
    (end_misses body parts c.step_block.new.left e c.in_err-test_left-in-None.ensures.returned))

pub returns-in-Some-clause-goes : goal.returns-in-Some-clause-goes
returns-in-Some-clause-goes g c = λ no.
    let parts = parts_of c.args.inner.now in
    let body = body_of c.args.source.now in
    let none = c.in_ok-step_block.ensures.none c.if-branch.false in
    let part = at_some _ c.in_ok-block.field-0 c.in-Some.block c.in_ok-block.ensures.read
    c.in-Some.is in
    rw (c.all.ensures, none.0, part.1, none.2)
    (part_goes body parts part.0 c.step_part.new.tops c.in-Some.block c.args.left.now part.2)

pub returns-in_ok-test_left-in-None-clause-ends : goal.returns-in_ok-test_left-in-None-clause-ends
returns-in_ok-test_left-in-None-clause-ends g c = λ yes.
    let parts = parts_of c.args.inner.now in
    let body = body_of c.args.source.now in
    let none = c.in_ok-step_block.ensures.none c.if-branch.false in
    let last = at_none _ c.in_ok-block.field-0 c.in_ok-block.ensures.none c.in-None.is in
    rw (none.0, last.0, sym none.2)
    (ends_here body parts c.step_block.new.left tt c.in_ok-test_left-in-None.ensures.returned)

pub returns-in_err-step_block-clause-early : goal.returns-in_err-step_block-clause-early
returns-in_err-step_block-clause-early g c =
    let passed = c.from_residual.result in
    early_block (body_of c.args.source.now) (parts_of c.args.inner.now) c.args.left.now
    c.args.handles.now c.args.tops.now passed c.in_err-step_block.ensures.calm
    (λ h rest is. passes_first passed c.in_err-step_block.field-0.0 _ c.from_residual.ensures.1
    (c.in_err-step_block.ensures.early h rest is))

pub returns-in_err-block-clause-early : goal.returns-in_err-block-clause-early
returns-in_err-block-clause-early g c =
    let none = c.in_ok-step_block.ensures.none c.if-branch.false in
    let passed = c.from_residual-in_err-block in
    rw none.0 (early_part (body_of c.args.source.now) (parts_of c.args.inner.now) c.args.left.now
    c.args.tops.now passed.result c.in_err-block.ensures.calm
    (λ top rest is. passes_first passed.result c.in_err-block.field-0.0 _ passed.ensures.1
    (c.in_err-block.ensures.early top rest is)))

pub returns-in-Some-clause-early : goal.returns-in-Some-clause-early
returns-in-Some-clause-early g c =
    let tops = c.args.tops.now in
    let none = c.in_ok-step_block.ensures.none c.if-branch.false in
    let part = at_some _ c.in_ok-block.field-0 c.in-Some.block c.in_ok-block.ensures.read
    c.in-Some.is in
    rw none.0 (early_part (body_of c.args.source.now) (parts_of c.args.inner.now)
    c.args.left.now tops (Ok false)
    (λ no. absurd (some_first tops part.0 c.step_part.new.tops part.1 no))
    c.in_ok-block.ensures.early)

pub returns-in_err-step_block-clause-next : goal.returns-in_err-step_block-clause-next
returns-in_err-step_block-clause-next g c =
    let parts = parts_of c.args.inner.now in
    let body = body_of c.args.source.now in
    let hs = c.args.handles.now in
    let tops = c.args.tops.now in
    let left = c.args.left.now in
    let e = c.in_err-step_block.field-0.0 in
    refuses c.from_residual.result e (next_found body parts (in_index hs tops) left)
    c.from_residual.ensures.1
    (next_block body parts left hs tops e c.in_err-step_block.ensures.calm
    c.in_err-step_block.ensures.next)

pub returns-in_err-block-clause-next : goal.returns-in_err-block-clause-next
returns-in_err-block-clause-next g c =
    let parts = parts_of c.args.inner.now in
    let body = body_of c.args.source.now in
    let tops = c.args.tops.now in
    let left = c.args.left.now in
    let e = c.in_err-block.field-0.0 in
    let passed = c.from_residual-in_err-block in
    let none = c.in_ok-step_block.ensures.none c.if-branch.false in
    refuses passed.result e (next_found body parts (in_index c.args.handles.now tops) left)
    passed.ensures.1
    (λ f found. ap (λ (hs : List Handle). next_found body parts (in_index hs tops) left) none.0
    ∙ next_part body parts left tops e c.in_err-block.ensures.calm c.in_err-block.ensures.refused f
    found)

pub returns-in_err-test_left-in-None-clause-next :
    goal.returns-in_err-test_left-in-None-clause-next
returns-in_err-test_left-in-None-clause-next g c =
    let parts = parts_of c.args.inner.now in
    let body = body_of c.args.source.now in
    let e = c.in_err-test_left-in-None.field-0.0 in
    let passed = c.from_residual-in_err-test_left-in-None in
    let none = c.in_ok-step_block.ensures.none c.if-branch.false in
    let last = at_none _ c.in_ok-block.field-0 c.in_ok-block.ensures.none c.in-None.is in
    let ahead = in_index c.args.handles.now c.args.tops.now in
    refuses passed.result e (next_found body parts ahead c.args.left.now) passed.ensures.1
    (rw (none.0, last.0, sym none.2) c.in_err-test_left-in-None.ensures.returned)

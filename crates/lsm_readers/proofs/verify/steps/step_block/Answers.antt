use Rattle.std.proofs.Common.{◌∷◌, List, drop, refl, ap, sym, ◌∙◌}
use Rattle.sst_blocks.specs.Sections.{body_of}
use Rattle.sst_blocks.specs.Handle.{Handle}
use Rattle.lsm_readers.specs.point.Table.{parts_of}
use Rattle.std.specs.List.{slice_get}
use Rattle.lsm_readers.specs.Verify.{block_found, blocks_found}
use Rattle.lsm_readers.proofs.Verifications.{at_none, first_misses, refuses}
use Rattle.lsm_readers.proofs.VerifyEarly.{some_first}
use Rattle.lsm_readers.proofs.VerifyReads.{next_is}
use Rattle.lsm_readers.proofs.verify.steps.step_block.Goals as goal

pub returns-in-None-clause-none : goal.returns-in-None-clause-none
returns-in-None-clause-none g c = λ no.
    let none = at_none _ c.next.result c.next.ensures.none c.in-None.is in
    (none, none, refl)

pub returns-in_err-read-clause-refused : goal.returns-in_err-read-clause-refused
returns-in_err-read-clause-refused g c =
    let parts = parts_of c.args.inner.now in
    let body = body_of c.args.source.now in
    let hs = c.args.handles.now in
    let left = c.args.left.now in
    let next = c.in-Some.next in
    let first = next_is next.0.now hs next.1 c.in-Some.ensures.within c.in-Some.ensures.some in
    let h = first.0 in
    let e = c.in_err-read.field-0.0 in
    refuses c.from_residual.result e (blocks_found body parts left hs) c.from_residual.ensures.1
    (λ f found. ap (blocks_found body parts left) first.2
    ∙ first_misses body parts h (drop 1 hs) left e (c.in_err-read.ensures.returned h first.1) f found)

pub returns-clause-read : goal.returns-clause-read
returns-clause-read g c = λ yes.
    let hs = c.args.handles.now in
    let next = c.in-Some.next in
    let first = next_is next.0.now hs next.1 c.in-Some.ensures.within c.in-Some.ensures.some in
    let h = first.0 in (
      h,
      first.2 ∙ ap (λ (xs : List Handle). h ∷ xs) (sym c.pass.ensures),
      c.in_ok-read.ensures.returned h first.1,
    )

pub returns-in_err-read-clause-calm : goal.returns-in_err-read-clause-calm
returns-in_err-read-clause-calm g c = λ none.
    let hs = c.args.handles.now in
    let next = c.in-Some.next in
    let first = next_is next.0.now hs next.1 c.in-Some.ensures.within c.in-Some.ensures.some in
    absurd (some_first hs first.0 (drop 1 hs) first.2 none)

pub returns-in_err-read-clause-next : goal.returns-in_err-read-clause-next
returns-in_err-read-clause-next g c = λ h rest is.
    let parts = parts_of c.args.inner.now in
    let body = body_of c.args.source.now in
    let e = c.in_err-read.field-0.0 in
    refuses c.from_residual.result e (block_found body parts c.args.left.now h)
    c.from_residual.ensures.1
    (c.in_err-read.ensures.returned h
    (c.in-Some.ensures.some ∙ ap (λ (hs : List Handle). slice_get hs 0) is))

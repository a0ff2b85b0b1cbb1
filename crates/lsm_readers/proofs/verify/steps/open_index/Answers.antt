use Rattle.std.proofs.Common.{[]}
use Rattle.sst_blocks.specs.Sections.{body_of}
use Rattle.sst_blocks.specs.declared.section.SectionName.TheVariants as section
use Rattle.lsm_readers.specs.point.Table.{parts_of}
use Rattle.lsm_readers.specs.Verification.{before_index, rest_found}
use Rattle.lsm_readers.specs.Verify.{handles_found, passed}
use Rattle.lsm_readers.proofs.Verifications.{full_goes, index_misses, misses_passed, refuses}
use Rattle.lsm_readers.proofs.Verifications.{tops_goes}
use Rattle.lsm_readers.proofs.verify.steps.open_index.Goals as goal

pub returns-in_err-handles-clause-refused : goal.returns-in_err-handles-clause-refused
returns-in_err-handles-clause-refused g c = λ left.
    let parts = parts_of c.args.inner.now in
    let body = body_of c.args.source.now in
    let e = c.in_err-handles.field-0.0 in
    refuses c.from_residual.result e (rest_found body parts (before_index []) left)
    c.from_residual.ensures.1 (index_misses body parts left e c.in_err-handles.ensures.returned)

pub returns-in-None-clause-goes : goal.returns-in-None-clause-goes
returns-in-None-clause-goes g c = λ left.
    rw (c.none.ensures, c.all-handles.ensures)
    (full_goes (body_of c.args.source.now) (parts_of c.args.inner.now) c.in-None.is
    c.in_ok-handles.handles left c.in_ok-handles.ensures.returned)

pub returns-in-Some-clause-goes : goal.returns-in-Some-clause-goes
returns-in-Some-clause-goes g c = λ left.
    rw (c.none-in-Some.ensures, c.all-handles.ensures)
    (tops_goes (body_of c.args.source.now) (parts_of c.args.inner.now) c.in-Some.field-0
    c.in-Some.is c.in_ok-handles.handles left c.in_ok-handles.ensures.returned)

pub returns-in_err-handles-clause-next : goal.returns-in_err-handles-clause-next
returns-in_err-handles-clause-next g c =
    let returned = handles_found (body_of c.args.source.now) section.Tli
    (parts_of c.args.inner.now).regions.tli in
    let e = c.in_err-handles.field-0.0 in
    refuses c.from_residual.result e (passed returned) c.from_residual.ensures.1
    (misses_passed e returned c.in_err-handles.ensures.returned)

use Rattle.std.proofs.Common.{◌≡◌, subst}
use Rattle.std.specs.Prelude.{Ok}
use Rattle.sst_blocks.specs.Sections.{body_of}
use Rattle.sst_blocks.specs.declared.section.SectionName.TheVariants as section
use Rattle.sst_blocks.specs.Handle.{Handle}
use Rattle.sst_blocks.specs.Place.{Place}
use Rattle.lsm_readers.specs.Verify.{Misses, handles_found, top_named}
use Rattle.lsm_readers.specs.Verification.{partition_found}
use Rattle.lsm_readers.proofs.VerifyLoops.{passes}
use Rattle.lsm_readers.proofs.VerifyReads.{handles_misses, place_is, same_found, top_goes}
use Rattle.lsm_readers.proofs.VerifyReads.{top_misses}
use Rattle.lsm_readers.proofs.verify.steps.load_partition.Goals as goal

pub returns-in_err-handles-clause-returned : goal.returns-in_err-handles-clause-returned
returns-in_err-handles-clause-returned g c = λ top here.
    let body = body_of c.args.source.now in
    let at = place_is c.args.tops.now c.args.index c.place_at.result top c.place_at.ensures here in
    let e = c.in_err-handles.field-0.0 in
    passes _ c.from_residual.result (partition_found body top) e c.from_residual.ensures.1
    (handles_misses body top e
    (subst (λ (p : Place). Misses e (handles_found body section.Index p)) at
    c.in_err-handles.ensures.returned))

pub returns-in_err-test_top-clause-returned : goal.returns-in_err-test_top-clause-returned
returns-in_err-test_top-clause-returned g c = λ top here.
    let body = body_of c.args.source.now in
    let hs = c.in_ok-handles.handles in
    let at = place_is c.args.tops.now c.args.index c.place_at.result top c.place_at.ensures here in
    let same = same_found c.args.tops.now c.args.index c.in_ok-top.top top c.in_ok-top.ensures.ok
    here in
    let e = c.in_err-test_top.field-0.0 in
    let passed = c.from_residual-in_err-test_top in
    passes _ passed.result (partition_found body top) e passed.ensures.1
    (top_misses body top hs e
    (subst (λ (p : Place). handles_found body section.Index p ≡ Ok hs) at
    c.in_ok-handles.ensures.returned)
    (subst (λ (h : Handle). Misses e (top_named h hs)) same c.in_err-test_top.ensures))

pub returns-clause-returned : goal.returns-clause-returned
returns-clause-returned g c = λ top here.
    let body = body_of c.args.source.now in
    let hs = c.in_ok-handles.handles in
    let at = place_is c.args.tops.now c.args.index c.place_at.result top c.place_at.ensures here in
    let same = same_found c.args.tops.now c.args.index c.in_ok-top.top top c.in_ok-top.ensures.ok
    here in
    top_goes body top hs
    (subst (λ (p : Place). handles_found body section.Index p ≡ Ok hs) at
    c.in_ok-handles.ensures.returned)
    (subst (λ (h : Handle). top_named h hs ≡ Ok tt) same c.in_ok-test_top.ensures)

use Rattle.std.proofs.Common.{ap, sym, ◌∙◌}
use Rattle.std.proofs.lemmas.Result.{IfOk-from_err}
use Rattle.sst_blocks.specs.Sections.{body_of}
use Rattle.lsm_readers.specs.point.Meta.{Facts, facts_of, meta_result}
use Rattle.std.specs.Prelude.{Result, Ok}
use Rattle.sst_entries.specs.declared.error.Error.{Error}
use Rattle.lsm_readers.specs.declared.meta.ParsedMeta.{ParsedMeta}
use Rattle.lsm_readers.specs.declared.regions.ParsedRegions.{ParsedRegions}
use Rattle.lsm_readers.specs.point.Parts.{Parts, Pinned, parts_result, facts_fitting, pinned_result}
use Rattle.lsm_readers.specs.point.Parts.{places_result}
use Rattle.lsm_readers.specs.point.Regions.{regions_result}
use Rattle.lsm_readers.specs.point.Table.{parts_of, pinned_of}
use Rattle.lsm_readers.proofs.Recovered.{first_from, first_none, places_fine, places_first}
use Rattle.lsm_readers.proofs.Recovered.{places_none}
use Rattle.lsm_readers.proofs.Steps.{goes_on, fails_here, fails_later, passes_fault, both_on}
use Rattle.lsm_readers.proofs.Steps.{both_fail, both_later, beside_fails, beside_first}
use Rattle.lsm_readers.proofs.Steps.{beside_gives}
use Rattle.lsm_readers.proofs.recover.recover_in.Goals as goal

abbrev reported_parts : Facts → ParsedRegions → Pinned → Result Parts Error
reported_parts facts regions pinned = Ok (record { facts = facts; regions = regions; pinned = pinned })

pub returns-in_err-regions-clause-returned : goal.returns-in_err-regions-clause-returned
unfolding parts_result
returns-in_err-regions-clause-returned g c known bytes toc body_is =
    passes_fault (parts_of {A = g.row.S-Alloc.Denot}) c.from_residual.result _ c.in_err-regions.field-0.0 c.from_residual.ensures.1
    (fails_here _ _ _ (λ memory. ap regions_result (sym toc) ∙ sym c.in_err-regions.ensures))

pub returns-in_err-regions-clause-number : goal.returns-in_err-regions-clause-number
returns-in_err-regions-clause-number g c = IfOk-from_err _ _ c.from_residual.ensures.0

pub returns-in_err-regions-clause-tree : goal.returns-in_err-regions-clause-tree
returns-in_err-regions-clause-tree g c = IfOk-from_err _ _ c.from_residual.ensures.0

pub returns-in_err-regions-clause-checksum : goal.returns-in_err-regions-clause-checksum
returns-in_err-regions-clause-checksum g c = IfOk-from_err _ _ c.from_residual.ensures.0

pub returns-in_err-metadata-clause-returned : goal.returns-in_err-metadata-clause-returned
unfolding parts_result
returns-in_err-metadata-clause-returned g c known bytes toc body_is =
    passes_fault (parts_of {A = g.row.S-Alloc.Denot}) c.from_residual-in_err-metadata.result _ c.in_err-metadata.field-0.0 c.from_residual-in_err-metadata.ensures.1
    (fails_later _ _ _ _ (ap regions_result (sym toc) ∙ sym c.in_ok-regions.ensures) (both_fail (meta_result (body_of bytes) (c.in_ok-regions.regions).metadata) (λ (facts : Facts). facts_fitting facts c.args.global_seqno) _ _ (rw body_is at (c.in_err-metadata.ensures.returned known))))

pub returns-in_err-metadata-clause-number : goal.returns-in_err-metadata-clause-number
returns-in_err-metadata-clause-number g c = IfOk-from_err _ _ c.from_residual-in_err-metadata.ensures.0

pub returns-in_err-metadata-clause-tree : goal.returns-in_err-metadata-clause-tree
returns-in_err-metadata-clause-tree g c = IfOk-from_err _ _ c.from_residual-in_err-metadata.ensures.0

pub returns-in_err-metadata-clause-checksum : goal.returns-in_err-metadata-clause-checksum
returns-in_err-metadata-clause-checksum g c = IfOk-from_err _ _ c.from_residual-in_err-metadata.ensures.0

pub returns-in_err-metadata-2-clause-returned : goal.returns-in_err-metadata-2-clause-returned
unfolding parts_result
returns-in_err-metadata-2-clause-returned g c known bytes toc body_is =
    let regions = c.in_ok-regions.regions in
    let body = body_of bytes in
    let e = c.in_err-metadata-2.field-0.0 in
    let fails = beside_fails (pinned_of {A = g.row.S-Alloc.Denot}) c.in_ok-metadata.metadata c.load_pinned-pinned.result (pinned_result body regions c.args.pin_filter c.args.pin_index) e (rw (c.in_ok-metadata.ensures.body, body_is) at (c.load_pinned-pinned.ensures.returned known)) c.in_err-metadata-2.ensures.both in
    passes_fault (parts_of {A = g.row.S-Alloc.Denot}) c.from_residual-in_err-metadata-2.result _ e c.from_residual-in_err-metadata-2.ensures.1
    (fails_later _ _ _ _ (ap regions_result (sym toc) ∙ sym c.in_ok-regions.ensures) (both_later (meta_result body regions.metadata) (λ (facts : Facts). facts_fitting facts c.args.global_seqno) _ _ _ (rw body_is at (c.in_ok-metadata.ensures.returned known)) (fails_here _ _ _ fails)))

pub returns-in_err-metadata-2-clause-number : goal.returns-in_err-metadata-2-clause-number
returns-in_err-metadata-2-clause-number g c = IfOk-from_err _ _ c.from_residual-in_err-metadata-2.ensures.0

pub returns-in_err-metadata-2-clause-tree : goal.returns-in_err-metadata-2-clause-tree
returns-in_err-metadata-2-clause-tree g c = IfOk-from_err _ _ c.from_residual-in_err-metadata-2.ensures.0

pub returns-in_err-metadata-2-clause-checksum : goal.returns-in_err-metadata-2-clause-checksum
returns-in_err-metadata-2-clause-checksum g c = IfOk-from_err _ _ c.from_residual-in_err-metadata-2.ensures.0

pub returns-clause-returned : goal.returns-clause-returned
unfolding parts_result
returns-clause-returned g c known bytes toc body_is =
    let regions = c.in_ok-regions.regions in
    let body = body_of bytes in
    let kept = c.in_ok-metadata-2.metadata in
    let pinned = c.in_ok-metadata-2.pinned in
    let call = c.load_pinned-pinned in
    let gives = beside_gives (pinned_of {A = g.row.S-Alloc.Denot}) c.in_ok-metadata.metadata call.result (pinned_result body regions c.args.pin_filter c.args.pin_index) kept pinned (rw (c.in_ok-metadata.ensures.body, body_is) at (call.ensures.returned known)) c.in_ok-metadata-2.ensures.both in
    let same = beside_first c.in_ok-metadata.metadata call.result kept pinned c.in_ok-metadata-2.ensures.both in
    goes_on _ _ _ _ (ap regions_result (sym toc) ∙ sym c.in_ok-regions.ensures)
    (both_on (meta_result body regions.metadata) (λ (facts : Facts). facts_fitting facts c.args.global_seqno) _ _ _ (rw body_is at (c.in_ok-metadata.ensures.returned known)) (goes_on _ _ _ _ gives (ap (λ (m : ParsedMeta g.row.S-Alloc.Denot). reported_parts (facts_of m) regions (pinned_of pinned)) (sym same))))

pub returns-in_err-regions-clause-early : goal.returns-in_err-regions-clause-early
returns-in_err-regions-clause-early g c at bytes toc body_is =
    places_first c.from_residual.result (body_of bytes) (places_result bytes) c.in_err-regions.field-0.0 c.from_residual.ensures.1
    (ap regions_result (sym toc) ∙ sym c.in_err-regions.ensures)

pub returns-in_err-metadata-clause-early : goal.returns-in_err-metadata-clause-early
returns-in_err-metadata-clause-early g c at bytes toc body_is =
    places_fine c.from_residual-in_err-metadata.result (body_of bytes) (places_result bytes) c.in_ok-regions.regions (ap regions_result (sym toc) ∙ sym c.in_ok-regions.ensures)
    (first_from c.from_residual-in_err-metadata.result c.in_err-metadata.field-0.0 _ c.from_residual-in_err-metadata.ensures.1 (rw body_is at (c.in_err-metadata.ensures.early at)))

pub returns-in_err-metadata-2-clause-early : goal.returns-in_err-metadata-2-clause-early
returns-in_err-metadata-2-clause-early g c at bytes toc body_is =
    places_fine c.from_residual-in_err-metadata-2.result (body_of bytes) (places_result bytes) c.in_ok-regions.regions (ap regions_result (sym toc) ∙ sym c.in_ok-regions.ensures)
    (first_none c.from_residual-in_err-metadata-2.result _ (rw body_is at (c.in_ok-metadata.ensures.early at)))

pub returns-clause-early : goal.returns-clause-early
returns-clause-early g c at bytes toc body_is =
    places_none (body_of bytes) (places_result bytes) c.in_ok-regions.regions (ap regions_result (sym toc) ∙ sym c.in_ok-regions.ensures)
    (rw body_is at (c.in_ok-metadata.ensures.early at))

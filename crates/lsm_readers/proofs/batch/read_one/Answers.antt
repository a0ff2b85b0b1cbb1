use Rattle.std.proofs.Common.{◌≡◌, List, ℕ, subst}
use Rattle.std.specs.Prelude.{Err}
use Rattle.std.specs.Option.{option_map}
use Rattle.sst_blocks.specs.Sections.{body_of}
use Rattle.lsm_readers.specs.point.Answer.{admitted_handle}
use Rattle.lsm_readers.specs.point.Batch.{query_result}
use Rattle.lsm_readers.specs.point.Table.{parts_of}
use Rattle.lsm_readers.proofs.BatchReads.{lookup_fails}
use Rattle.lsm_readers.proofs.Steps.{passes_fault}
use Rattle.lsm_readers.proofs.batch.read_one.Goals as goal

pub returns-in_err-handle-clause-returned : goal.returns-in_err-handle-clause-returned
returns-in_err-handle-clause-returned g c =
    let bytes = c.args.blocks.now in
    let inner = c.args.inner.now in
    let parts = parts_of inner in
    let query = c.args.query.now in
    let low = c.saturating_sub-low.result in
    let e = c.in_err-handle.field-0.0 in
    passes_fault (option_map (g.F.Finder.entry bytes)) c.from_residual.result (query_result (body_of bytes) inner.global_seqno parts query) e c.from_residual.ensures.1
    (λ small.
    let read = (c.in_err-handle.ensures.read tt).returned small in
    let there = subst (λ (b : List ℕ). (admitted_handle (body_of b) parts c.as_slice-key.result.now low).returned ≡ Err e) c.new-source.ensures.source read in
    let at = subst (λ (key : List ℕ). (admitted_handle (body_of bytes) parts key low).returned ≡ Err e) c.as_slice-key.ensures there in
    lookup_fails (body_of bytes) inner.global_seqno parts query.key query.seqno low e c.saturating_sub-low.ensures at)

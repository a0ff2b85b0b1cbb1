use Rattle.std.proofs.Common.{◌≡◌, ℕ, ap, subst, sym, ◌∙◌}
use Rattle.std.specs.Prelude.{Option, Ok}
use Rattle.sst_entries.specs.declared.error.Error.{Error}
use Rattle.sst_entries.specs.Error.{unless}
use Rattle.lsm_readers.specs.point.Parts.{parts_result, recovered_result}
use Rattle.lsm_readers.specs.point.Table.{OpenTable, parts_of}
use Rattle.lsm_readers.proofs.StoredParts.{stored_fits}
use Rattle.lsm_files.proofs.Opened.{passed_error, stored_opens, trailer_passes, trailer_refuses}
use Rattle.lsm_files.proofs.table.FileTable.open.Goals as goal

pub returns-in_err-toc-clause-returned : goal.returns-in_err-toc-clause-returned
returns-in_err-toc-clause-returned g c known =
    let bytes = g.R.ReadAt.bytes c.args.file in
    trailer_refuses g.R.ReadAt.reads (λ (t : OpenTable). t.parts) bytes (parts_result bytes c.args.global_seqno c.args.pin_filter c.args.pin_index)
    c.from_residual.result c.in_err-toc.field-0.0 c.from_residual.ensures.1 (c.in_err-toc.ensures.fault known)

pub returns-in_err-inner-clause-returned : goal.returns-in_err-inner-clause-returned
returns-in_err-inner-clause-returned g c known =
    let bytes = g.R.ReadAt.bytes c.args.file in
    let parts = parts_result bytes c.args.global_seqno c.args.pin_filter c.args.pin_index in
    let view = λ (t : OpenTable). t.parts in
    let result = c.from_residual-in_err-inner.result in
    trailer_passes g.R.ReadAt.reads view bytes parts result (c.in_ok-toc.ensures.toc known).fine
    (passed_error g.R.ReadAt.reads view (parts_of {A = g.row.A.Denot}) result c.in_err-inner.field-0.0 parts c.from_residual-in_err-inner.ensures.1 (c.in_err-inner.ensures.returned known))

pub returns-clause-returned : goal.returns-clause-returned
returns-clause-returned g c known =
    let bytes = g.R.ReadAt.bytes c.args.file in
    let parts = parts_result bytes c.args.global_seqno c.args.pin_filter c.args.pin_index in
    ap (λ (fault : Option Error). unless fault parts) (c.in_ok-toc.ensures.toc known).fine ∙ c.in_ok-inner.ensures.returned known

pub invariant_of-result : goal.invariant_of-result
invariant_of-result g c known =
    let bytes = g.R.ReadAt.bytes c.args.file in
    let inner = c.in_ok-inner.inner in
    let returned = returns-clause-returned g c known in (
      sym (c.in_ok-toc.ensures.toc known).body,
      record {
        pin_filter = c.args.pin_filter;
        pin_index = c.args.pin_index;
        returned = subst (λ (n : ℕ). recovered_result bytes n c.args.pin_filter c.args.pin_index ≡ Ok (parts_of inner)) (sym c.in_ok-inner.ensures.number) returned;
      },
    )

pub returns-in_err-toc-clause-stores : goal.returns-in_err-toc-clause-stores
returns-in_err-toc-clause-stores g c known es is =
    stored_opens g.R.ReadAt.reads (λ (t : OpenTable). t.parts) (g.R.ReadAt.bytes c.args.file) es is c.args.global_seqno c.args.pin_filter c.args.pin_index
    c.from_residual.result (returns-in_err-toc-clause-returned g c known)

pub returns-in_err-inner-clause-stores : goal.returns-in_err-inner-clause-stores
returns-in_err-inner-clause-stores g c known es is =
    stored_opens g.R.ReadAt.reads (λ (t : OpenTable). t.parts) (g.R.ReadAt.bytes c.args.file) es is c.args.global_seqno c.args.pin_filter c.args.pin_index
    c.from_residual-in_err-inner.result (returns-in_err-inner-clause-returned g c known)

pub returns-clause-stores : goal.returns-clause-stores
returns-clause-stores g c known es is =
    stored_fits (g.R.ReadAt.bytes c.args.file) es is c.args.global_seqno c.args.pin_filter c.args.pin_index _ (returns-clause-returned g c known)

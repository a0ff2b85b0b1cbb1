use Rattle.std.proofs.Common.{◌≡◌, ◌∙◌, ap, sym, subst, true, []}
use Rattle.std.specs.List.{AllByRecursion}
use Rattle.sst_blocks.specs.declared.version.TableVersion.TheVariants.{V4}
use Rattle.sst_entries.specs.Strict.{IsStrict}
use Rattle.sst_blocks.specs.table.Fits.{EntryFits, LabelFits}
use Rattle.sst_entries.proofs.StreamLemmas.{on_err}
use Rattle.sst_blocks.specs.table.Chunks.{joined}
use Rattle.lsm_writers.specs.Writing.{Writing, WritesTable, written}
use Rattle.sst_entries.proofs.Refusals.{faults_refusal}
use Rattle.lsm_writers.proofs.Refused.{none_some}
use Rattle.lsm_writers.proofs.Finishing.{finish_failed, spilled_is, nothing_behind, written_none, written_some, works_still, no_finish_fault, sections_fault_is, written_strict, written_fits, finished_is}
use Rattle.lsm_writers.proofs.writer.Writer.finish.Goals as goal

pub table-requires-clause-works : goal.table-requires-clause-works
table-requires-clause-works g c = ap (λ (w : Writing). w.failed) c.in_default.ensures.ok ∙ works_still c.args.self.failed c.in_default.ensures.refused

pub returns-then-item_count-eq0-clause-table : goal.returns-then-item_count-eq0-clause-table
returns-then-item_count-eq0-clause-table g c =
    let i = c.self.inside in
    let held = spilled_is c.args.self _ i.chunk_size i.meta (c.self.view_is ∙ c.in_default.ensures.ok) c.self.invariant.0 in
    written_none c.args.self i.chunk_size i.meta held c.if-item_count-eq0.true

pub returns-then-item_count-eq0-clause-refused : goal.returns-then-item_count-eq0-clause-refused
returns-then-item_count-eq0-clause-refused g c =
    let i = c.self.inside in
    let held = spilled_is c.args.self _ i.chunk_size i.meta (c.self.view_is ∙ c.in_default.ensures.ok) c.self.invariant.0 in
    no_finish_fault c.args.self i.chunk_size i.meta held c.in_default.ensures.refused c.if-item_count-eq0.true

pub returns-clause-table : goal.returns-clause-table
returns-clause-table g c =
    let i = c.self.inside in
    let w = c.args.self in
    let t = c.in_ok-table in
    let spilled_to = c.in_default.ensures.ok in
    let held = spilled_is w _ i.chunk_size i.meta (c.self.view_is ∙ spilled_to) c.self.invariant.0 in
    let id = t.ensures.id ∙ ap (λ (x : Writing). x.label.table_id) spilled_to in
    finished_is w i.chunk_size i.meta t.field-0.id t.field-0.checksum.0 t.field-0.bytes held c.if-item_count-eq0.false id t.ensures.checksum
    (subst (λ (x : Writing). WritesTable x t.field-0.bytes) spilled_to t.ensures.table)
    (subst (λ (x : Writing). LabelFits x.label) spilled_to t.ensures.label)

pub returns-clause-refused : goal.returns-clause-refused
returns-clause-refused g c = sym (sections_fault_is c.args.self _ c.in_default.ensures.ok c.in_default.ensures.refused) ∙ c.in_ok-table.ensures.refused

pub returns-in-Err-clause-idle : goal.returns-in-Err-clause-idle
returns-in-Err-clause-idle g c =
    let w = c.args.self in
    λ e. c.in-Err.ensures.idle (nothing_behind (joined w.cut) w.pending e)

pub returns-in_err-table-clause-idle : goal.returns-in_err-table-clause-idle
returns-in_err-table-clause-idle g c =
    let w = c.args.self in
    let i = c.self.inside in
    let held = spilled_is w _ i.chunk_size i.meta (c.self.view_is ∙ c.in_default.ensures.ok) c.self.invariant.0 in
    let idle : written w ≡ [] → w.failed ≡ true = λ e. absurd (written_some w i.chunk_size i.meta held c.if-item_count-eq0.false e) in
    on_err c.from_residual.result idle

pub returns-in-Err-clause-strict : goal.returns-in-Err-clause-strict
returns-in-Err-clause-strict g c = subst (λ (w : Writing). IsStrict (written w)) (c.self.view_is ∙ c.in-Err.ensures.failed) c.self.invariant.0.strict

pub returns-in-Err-clause-fits : goal.returns-in-Err-clause-fits
returns-in-Err-clause-fits g c = subst (λ (w : Writing). AllByRecursion (EntryFits V4) (written w)) (c.self.view_is ∙ c.in-Err.ensures.failed) c.self.invariant.0.fits

pub returns-then-item_count-eq0-clause-strict : goal.returns-then-item_count-eq0-clause-strict
returns-then-item_count-eq0-clause-strict g c =
    let i = c.self.inside in
    let held = spilled_is c.args.self _ i.chunk_size i.meta (c.self.view_is ∙ c.in_default.ensures.ok) c.self.invariant.0 in
    written_strict c.args.self i.chunk_size i.meta held

pub returns-then-item_count-eq0-clause-fits : goal.returns-then-item_count-eq0-clause-fits
returns-then-item_count-eq0-clause-fits g c =
    let i = c.self.inside in
    let held = spilled_is c.args.self _ i.chunk_size i.meta (c.self.view_is ∙ c.in_default.ensures.ok) c.self.invariant.0 in
    written_fits c.args.self i.chunk_size i.meta held

pub returns-in_err-table-clause-strict : goal.returns-in_err-table-clause-strict
returns-in_err-table-clause-strict g c =
    let i = c.self.inside in
    let held = spilled_is c.args.self _ i.chunk_size i.meta (c.self.view_is ∙ c.in_default.ensures.ok) c.self.invariant.0 in
    written_strict c.args.self i.chunk_size i.meta held

pub returns-in_err-table-clause-fits : goal.returns-in_err-table-clause-fits
returns-in_err-table-clause-fits g c =
    let i = c.self.inside in
    let held = spilled_is c.args.self _ i.chunk_size i.meta (c.self.view_is ∙ c.in_default.ensures.ok) c.self.invariant.0 in
    written_fits c.args.self i.chunk_size i.meta held

pub returns-clause-strict : goal.returns-clause-strict
returns-clause-strict g c =
    let i = c.self.inside in
    let held = spilled_is c.args.self _ i.chunk_size i.meta (c.self.view_is ∙ c.in_default.ensures.ok) c.self.invariant.0 in
    written_strict c.args.self i.chunk_size i.meta held

pub returns-clause-fits : goal.returns-clause-fits
returns-clause-fits g c =
    let i = c.self.inside in
    let held = spilled_is c.args.self _ i.chunk_size i.meta (c.self.view_is ∙ c.in_default.ensures.ok) c.self.invariant.0 in
    written_fits c.args.self i.chunk_size i.meta held

pub returns-in-Err-clause-refused : goal.returns-in-Err-clause-refused
returns-in-Err-clause-refused g c = λ memory. finish_failed c.args.self _ (c.in-Err.ensures.refused memory)

pub returns-in_err-table-clause-refused : goal.returns-in_err-table-clause-refused
returns-in_err-table-clause-refused g c =
    faults_refusal c.from_residual.result c.in_err-table.field-0.0 _ c.from_residual.ensures.1
    (λ memory. sym (sections_fault_is c.args.self _ c.in_default.ensures.ok c.in_default.ensures.refused) ∙ c.in_err-table.ensures.refused memory)

pub returns-in_err-table-clause-first : goal.returns-in_err-table-clause-first
returns-in_err-table-clause-first g c = λ x returned. absurd (none_some x (sym c.in_default.ensures.refused ∙ returned))

pub returns-then-item_count-eq0-clause-first : goal.returns-then-item_count-eq0-clause-first
returns-then-item_count-eq0-clause-first g c = λ x returned. absurd (none_some x (sym c.in_default.ensures.refused ∙ returned))

pub returns-clause-first : goal.returns-clause-first
returns-clause-first g c = λ x returned. absurd (none_some x (sym c.in_default.ensures.refused ∙ returned))

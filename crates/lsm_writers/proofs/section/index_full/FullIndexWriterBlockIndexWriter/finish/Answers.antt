-- What is inside is what the writer holds.
use Rattle.std.proofs.Common.{◌≡◌, ℕ, [], ◌∷◌, ap, sym, ◌∙◌, subst, length}
use Rattle.sst_blocks.specs.declared.section.SectionName.TheVariants.{Tli}
use Rattle.sst_blocks.specs.table.Partitions.{handles_block}
use Rattle.std.specs.Prelude.{OnOk, IfOk, Ok}
use Rattle.sst_entries.proofs.StreamLemmas.{on_err}
use Rattle.sst_entries.proofs.Refusals.{faults_memory}
use Rattle.std.specs.List.{AllByRecursion}
use Rattle.sst_blocks.proofs.Faults.{on_ok}
use Rattle.sst_blocks.specs.declared.version.TableVersion.TheVariants.{V4}
use Rattle.sst_blocks.specs.table.Fits.{SectionFits}
use Rattle.sst_blocks.specs.table.Kinds.{index_parts, index_sections}
use Rattle.sst_blocks.specs.table.Layout.{appended}
use Rattle.sst_blocks.specs.declared.table.options.IndexKind.TheVariants.{Full}
use Rattle.lsm_writers.specs.section.Registered.{Registered}
use Rattle.lsm_writers.proofs.Empty.{empty_count, empty_fault, empty_fits, empty_front}
use Rattle.lsm_writers.proofs.Empty.{empty_written, same_front, is_some_then}
use Rattle.lsm_writers.proofs.SectionFinishing.{works_fault, works_first}
use Rattle.lsm_writers.proofs.section.index_full.FullIndexWriterBlockIndexWriter.finish.Goals as goal

pub returns-clause-ok : goal.returns-clause-ok
returns-clause-ok g c =
    subst (λ (w : Registered). OnOk c.write_section.result (c.write_section.new.writer ≡
    appended c.args.writer.now (index_sections w.kind V4 (length c.args.writer.now.bytes) w.handles (index_parts w.kind w.handles))))
    c.self.view_is c.write_section.ensures.ok

pub returns-clause-count : goal.returns-clause-count
returns-clause-count g c =
    subst (λ (w : Registered). IfOk c.write_section.result (λ n. n ≡ length (index_parts w.kind w.handles))) c.self.view_is c.write_section.ensures.count

pub returns-clause-fits : goal.returns-clause-fits
returns-clause-fits g c =
    subst (λ (w : Registered). OnOk c.write_section.result (AllByRecursion SectionFits
    (index_sections w.kind V4 (length c.args.writer.now.bytes) w.handles (index_parts w.kind w.handles))))
    c.self.view_is (on_ok _ _ c.write_section.result c.write_section.ensures.fits (λ fits. (fits, tt)))

pub returns-clause-refused : goal.returns-clause-refused
returns-clause-refused g c =
    works_fault c.write_section.result c.args.self Full c.self.inside.kept.handles c.self.inside.kept.failed c.self.view_is (sym c.has_failed.ensures ∙ c.if-has_failed.false)
    c.write_section.ensures.refused

pub returns-clause-first : goal.returns-clause-first
returns-clause-first g c =
    works_first c.write_section.result c.self.inside.kept.failed c.args.self.failed (ap (λ (w : Registered). w.failed) c.self.view_is) (sym c.has_failed.ensures ∙ c.if-has_failed.false)

-- without handles
pub returns-then-is_empty-clause-ok : goal.returns-then-is_empty-clause-ok
returns-then-is_empty-clause-ok g c =
    empty_written c.args.self Full c.self.inside.kept.handles c.self.inside.kept.failed c.args.writer.now c.write_empty_top_level.new.writer c.self.view_is
    (c.is_empty.ensures.0 c.if-is_empty.true)
    c.in_ok-write_empty_top_level.ensures.ok

pub returns-then-is_empty-clause-count : goal.returns-then-is_empty-clause-count
returns-then-is_empty-clause-count g c =
    empty_count c.args.self Full c.self.inside.kept.handles c.self.inside.kept.failed c.args.writer.now c.write_empty_top_level.new.writer c.self.view_is
    (c.is_empty.ensures.0 c.if-is_empty.true)

pub returns-then-is_empty-clause-fits : goal.returns-then-is_empty-clause-fits
returns-then-is_empty-clause-fits g c =
    empty_fits c.args.self Full c.self.inside.kept.handles c.self.inside.kept.failed c.args.writer.now c.write_empty_top_level.new.writer c.self.view_is
    (c.is_empty.ensures.0 c.if-is_empty.true)

pub returns-then-is_empty-clause-refused : goal.returns-then-is_empty-clause-refused
returns-then-is_empty-clause-refused g c =
    empty_fault c.args.self Full c.self.inside.kept.handles c.self.inside.kept.failed c.args.writer.now c.write_empty_top_level.new.writer c.self.view_is
    (c.is_empty.ensures.0 c.if-is_empty.true)
    (sym c.has_failed.ensures ∙ c.if-has_failed.false)

pub returns-then-is_empty-clause-first : goal.returns-then-is_empty-clause-first
returns-then-is_empty-clause-first g c =
    works_first {X = ℕ} (Ok 1) c.self.inside.kept.failed c.args.self.failed (ap (λ (w : Registered). w.failed) c.self.view_is) (sym c.has_failed.ensures ∙ c.if-has_failed.false)

pub returns-then-is_empty-clause-before : goal.returns-then-is_empty-clause-before
returns-then-is_empty-clause-before g c = empty_front c.args.writer.now c.write_empty_top_level.new.writer ((Tli, handles_block V4 []) ∷ []) c.in_ok-write_empty_top_level.ensures.ok

pub returns-in_err-write_empty_top_level-clause-refused : goal.returns-in_err-write_empty_top_level-clause-refused
returns-in_err-write_empty_top_level-clause-refused g c =
    faults_memory c.from_residual.result c.in_err-write_empty_top_level.field-0.0 _ c.from_residual.ensures.1 c.in_err-write_empty_top_level.ensures.err

pub returns-in_err-write_empty_top_level-clause-first : goal.returns-in_err-write_empty_top_level-clause-first
returns-in_err-write_empty_top_level-clause-first g c =
    works_first c.from_residual.result c.self.inside.kept.failed c.args.self.failed (ap (λ (w : Registered). w.failed) c.self.view_is) (sym c.has_failed.ensures ∙ c.if-has_failed.false)

pub returns-in_err-write_empty_top_level-clause-before : goal.returns-in_err-write_empty_top_level-clause-before
returns-in_err-write_empty_top_level-clause-before g c = same_front c.args.writer.now c.write_empty_top_level.new.writer c.in_err-write_empty_top_level.ensures.bytes

pub returns-in_err-write_empty_top_level-clause-idle : goal.returns-in_err-write_empty_top_level-clause-idle
returns-in_err-write_empty_top_level-clause-idle g c =
    let same : c.args.self.handles ≡ [] → c.write_empty_top_level.new.writer.bytes ≡ c.args.writer.now.bytes = λ _. c.in_err-write_empty_top_level.ensures.bytes in
    on_err c.from_residual.result same

pub returns-clause-idle : goal.returns-clause-idle
returns-clause-idle g c =
    let none : c.args.self.handles ≡ [] → c.write_section.new.writer.bytes ≡ c.args.writer.now.bytes = λ none.
    absurd (is_some_then c.is_empty.result c.self.inside.kept.handles c.args.self.handles (ap (λ (w : Registered). w.handles) c.self.view_is) c.is_empty.ensures c.if-is_empty.false none) in
    on_err c.write_section.result none

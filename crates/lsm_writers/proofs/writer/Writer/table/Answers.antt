use Rattle.std.proofs.Common.{◌≡◌, ◌∙◌, ap, sym, subst, List, ℕ}
use Rattle.std.specs.Prelude.{None}
use Rattle.sst_entries.proofs.Refusals.{faults_memory}
use Rattle.lsm_writers.specs.Writing.{Writing, WritesTable, cut_writing, sections_fault}
use Rattle.sst_blocks.specs.table.Fits.{LabelFits}
use Rattle.lsm_writers.proofs.Finishing.{all_cut, parts_are}
use Rattle.lsm_writers.proofs.writer.Writer.table.Goals as goal

pub write_sections-sections-requires : goal.write_sections-sections-requires
write_sections-sections-requires g c =
    let i = c.self.inside in
    let none = ap (λ (w : Writing). w.pending) c.self.view_is ∙ c.requires.cut in
    let works = ap (λ (w : Writing). w.failed) c.self.view_is ∙ c.requires.works in
    let parts = parts_are i.failed i.options i.blocks.chunks i.chunk i.chunk_size i.meta i.filter_writer _ _ _ _ c.self.invariant.0 c.self.invariant.3 none works c.into_parts-file_writer.ensures.data c.into_kind-index_writer.ensures c.into_parts-file_writer.ensures.index c.into_parts-file_writer.ensures.works c.into_parts-file_writer.ensures.blocks in
    record { cut = i.blocks.chunks; are = parts }

pub returns-clause-table : goal.returns-clause-table
returns-clause-table g c =
    let i = c.self.inside in
    let none = ap (λ (w : Writing). w.pending) c.self.view_is ∙ c.requires.cut in
    let works = ap (λ (w : Writing). w.failed) c.self.view_is ∙ c.requires.works in
    let parts = parts_are i.failed i.options i.blocks.chunks i.chunk i.chunk_size i.meta i.filter_writer _ _ _ _ c.self.invariant.0 c.self.invariant.3 none works c.into_parts-file_writer.ensures.data c.into_kind-index_writer.ensures c.into_parts-file_writer.ensures.index c.into_parts-file_writer.ensures.works c.into_parts-file_writer.ensures.blocks in
    let same = all_cut i.label i.options i.blocks.chunks i.chunk i.failed none works ∙ c.self.view_is in
    subst (λ (w : Writing). WritesTable w c.in_ok-bytes.bytes) same
    (subst (λ (bytes : List ℕ). WritesTable (cut_writing i.label i.options i.blocks.chunks) bytes) (sym c.in_ok-bytes.ensures.bytes)
    (c.in_default.ensures.table i.blocks.chunks parts))

pub returns-clause-refused : goal.returns-clause-refused
returns-clause-refused g c =
    let i = c.self.inside in
    let none = ap (λ (w : Writing). w.pending) c.self.view_is ∙ c.requires.cut in
    let works = ap (λ (w : Writing). w.failed) c.self.view_is ∙ c.requires.works in
    let parts = parts_are i.failed i.options i.blocks.chunks i.chunk i.chunk_size i.meta i.filter_writer _ _ _ _ c.self.invariant.0 c.self.invariant.3 none works c.into_parts-file_writer.ensures.data c.into_kind-index_writer.ensures c.into_parts-file_writer.ensures.index c.into_parts-file_writer.ensures.works c.into_parts-file_writer.ensures.blocks in
    let same = all_cut i.label i.options i.blocks.chunks i.chunk i.failed none works ∙ c.self.view_is in
    subst (λ (w : Writing). sections_fault w ≡ None) same (c.in_default.ensures.refused i.blocks.chunks parts)

pub returns-in-Err-clause-refused : goal.returns-in-Err-clause-refused
returns-in-Err-clause-refused g c =
    let i = c.self.inside in
    let none = ap (λ (w : Writing). w.pending) c.self.view_is ∙ c.requires.cut in
    let works = ap (λ (w : Writing). w.failed) c.self.view_is ∙ c.requires.works in
    let parts = parts_are i.failed i.options i.blocks.chunks i.chunk i.chunk_size i.meta i.filter_writer _ _ _ _ c.self.invariant.0 c.self.invariant.3 none works c.into_parts-file_writer.ensures.data c.into_kind-index_writer.ensures c.into_parts-file_writer.ensures.index c.into_parts-file_writer.ensures.works c.into_parts-file_writer.ensures.blocks in
    let same = all_cut i.label i.options i.blocks.chunks i.chunk i.failed none works ∙ c.self.view_is in
    λ memory. ap sections_fault (sym same) ∙ c.in-Err.ensures.refused i.blocks.chunks parts memory

pub returns-in_err-bytes-clause-refused : goal.returns-in_err-bytes-clause-refused
returns-in_err-bytes-clause-refused g c = faults_memory c.from_residual.result c.in_err-bytes.field-0.0 _ c.from_residual.ensures.1 c.in_err-bytes.ensures.err

pub returns-in-Err-clause-label : goal.returns-in-Err-clause-label
returns-in-Err-clause-label g c = subst (λ (w : Writing). LabelFits w.label) c.self.view_is c.self.invariant.2

pub returns-in_err-bytes-clause-label : goal.returns-in_err-bytes-clause-label
returns-in_err-bytes-clause-label g c = subst (λ (w : Writing). LabelFits w.label) c.self.view_is c.self.invariant.2

pub returns-clause-label : goal.returns-clause-label
returns-clause-label g c = subst (λ (w : Writing). LabelFits w.label) c.self.view_is c.self.invariant.2

pub returns-clause-id : goal.returns-clause-id
returns-clause-id g c = ap (λ (w : Writing). w.label.table_id) c.self.view_is

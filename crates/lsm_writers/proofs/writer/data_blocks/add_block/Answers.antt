use Rattle.std.proofs.Common.{◌∙◌, ap, refl, sym, subst, [], ◌∷◌, ◌++◌, length}
use Rattle.std.specs.Prelude.{None, Some}
use Rattle.sst_blocks.specs.Sections.{Written}
use Rattle.sst_entries.proofs.StreamLemmas.{on_err}
use Rattle.sst_entries.proofs.Strictness.{strict_alone, strict_back}
use Rattle.sst_blocks.specs.Handle.{Handle}
use Rattle.sst_blocks.proofs.Faults.{on_ok}
use Rattle.sst_blocks.specs.table.Chunks.{joined}
use Rattle.sst_blocks.specs.table.Index.{last_entry}
use Rattle.lsm_writers.specs.Cut.{AreCut}
use Rattle.lsm_writers.proofs.Cutting.{cut_lost, cut_more, registered_strict, reported_handle}
use Rattle.lsm_writers.proofs.Refused.{err_then}
use Rattle.lsm_writers.proofs.writer.data_blocks.add_block.Goals as goal

pub write_into-requires-clause-strict : goal.write_into-requires-clause-strict
write_into-requires-clause-strict g c = strict_alone _ c.args.entries.now (strict_back None (joined c.requires.cut.chunks) c.args.entries.now c.requires.cut.strict)

pub register_block-requires-clause-some : goal.register_block-requires-clause-some
register_block-requires-clause-some g c = rw c.write_into.ensures.same c.requires.some

pub register_block-requires-clause-works : goal.register_block-requires-clause-works
register_block-requires-clause-works g c = c.requires.cut.works

pub register_block-requires-clause-strict : goal.register_block-requires-clause-strict
register_block-requires-clause-strict g c =
    let r = c.requires.cut in
    let w = c.args.file_writer.now in
    registered_strict r.chunks w c.args.index_writer.now.handles r.last c.args.index_writer.now.failed c.args.entries.now _ r.are r.works r.strict c.write_into.ensures.readable
    (reported_handle c.args.entries.now c.write_into.new.self (length w.bytes) c.in_ok-block.block c.write_into.ensures.same c.in_ok-block.ensures.handle)

pub returns-clause-added : goal.returns-clause-added
returns-clause-added g c =
    let w = c.args.file_writer.now in
    let es = c.args.entries.now in
    let readable = c.write_into.ensures.readable in
    let returned = reported_handle es c.write_into.new.self (length w.bytes) c.in_ok-block.block c.write_into.ensures.same c.in_ok-block.ensures.handle in
    on_ok _ _ c.register_block.result c.register_block.ensures.ok (λ more chunks before are strict.
    let hs = more ∙ ap (λ (h : Handle). c.args.index_writer.now.handles ++ h ∷ []) returned in
    cut_more chunks w c.write_into.new.file_writer c.args.index_writer.now.handles c.register_block.new.index_writer.handles before (Some (last_entry es)) c.args.index_writer.now.failed c.register_block.new.index_writer.failed es are c.requires.cut.works strict readable c.in_ok-block.ensures.ok hs refl)

pub returns-in_err-block-clause-left : goal.returns-in_err-block-clause-left
returns-in_err-block-clause-left g c = on_err c.from_residual.result (λ chunks before are.
    subst (λ (w : Written). AreCut chunks w c.args.index_writer.now.handles before c.args.index_writer.now.failed) (sym c.in_err-block.ensures.unchanged) are)

pub returns-clause-left : goal.returns-clause-left
returns-clause-left g c = err_then c.register_block.result c.register_block.ensures.unchanged c.register_block.ensures.failed (λ same failed chunks before are.
    cut_lost chunks c.args.file_writer.now c.write_into.new.file_writer c.args.index_writer.now.handles c.register_block.new.index_writer.handles before c.args.index_writer.now.failed c.register_block.new.index_writer.failed _ are c.in_ok-block.ensures.ok same failed)

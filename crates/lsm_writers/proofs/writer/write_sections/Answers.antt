use Rattle.lsm_writers.specs.section.IndexEither.{registered_by}
use Rattle.sst_blocks.specs.table.Chunks.{joined}
use Rattle.sst_blocks.specs.table.Filters.{filtered_keys}
use Rattle.sst_blocks.specs.table.Index.{data_section}
use Rattle.sst_blocks.specs.table.Kinds.{index_parts}
use Rattle.std.specs.Prelude.{length}
use Rattle.sst_blocks.specs.declared.version.TableVersion.TheVariants.{V4}
use Rattle.lsm_writers.proofs.Behind.{faults_none}
use Rattle.lsm_writers.proofs.Finishing.{sections_fit, sections_written}
use Rattle.lsm_writers.proofs.Starting.{no_meta_yet, no_version_yet}
use Rattle.lsm_writers.proofs.writer.write_sections.Goals as goal
use Rattle.sst_blocks.proofs.Faults.{on_ok}

pub write_version-requires : goal.write_version-requires
write_version-requires g c =
    let p = c.requires.are in
    let options = c.args.options.now in
    let r = registered_by c.args.index_writer in
    let keys = filtered_keys options.bloom_policy (joined c.requires.cut) in
    no_version_yet c.args.file_writer.now c.finish.new.writer c.finish_filter.new.file_writer (data_section V4 c.requires.cut) r.kind (length c.args.file_writer.now.bytes) r.handles (index_parts r.kind r.handles) options.filter_kind options.bloom_policy keys c.in_ok-filter_blocks.filter_blocks p.laid_first c.in_ok-index_blocks.ensures.ok (c.in_ok-filter_blocks.ensures.ok keys p.keys)

pub write_meta-requires-clause-fresh : goal.write_meta-requires-clause-fresh
write_meta-requires-clause-fresh g c =
    let p = c.requires.are in
    let options = c.args.options.now in
    let r = registered_by c.args.index_writer in
    let keys = filtered_keys options.bloom_policy (joined c.requires.cut) in
    no_meta_yet c.args.file_writer.now c.finish.new.writer c.finish_filter.new.file_writer c.write_version.new.file_writer (data_section V4 c.requires.cut) r.kind (length c.args.file_writer.now.bytes) r.handles (index_parts r.kind r.handles) options.filter_kind options.bloom_policy keys c.in_ok-filter_blocks.filter_blocks p.laid_first c.in_ok-index_blocks.ensures.ok (c.in_ok-filter_blocks.ensures.ok keys p.keys) c.in_ok-write_version.ensures.ok

pub returns-clause-table : goal.returns-clause-table
returns-clause-table g c =
    let index = c.in_ok-index_blocks.ensures in
    let options = c.args.options.now in
    on_ok _ _ c.write_meta.result c.write_meta.ensures.ok (λ written cut p.
    let keys = filtered_keys options.bloom_policy (joined cut) in
    sections_written c.args.label.now options cut c.in_ok-index_blocks.index_blocks c.in_ok-filter_blocks.filter_blocks c.args.file_writer.now c.finish.new.writer c.finish_filter.new.file_writer c.write_version.new.file_writer c.write_meta.new.file_writer c.args.index_writer c.args.filter_writer c.args.meta.now p index.ok index.fits index.count (c.in_ok-filter_blocks.ensures.ok keys p.keys) c.in_ok-write_version.ensures.ok written)

pub returns-clause-refused : goal.returns-clause-refused
returns-clause-refused g c = λ cut p.
    let keys = filtered_keys c.args.options.now.bloom_policy (joined cut) in
    faults_none c.write_meta.result _ (sections_fit c.args.label.now c.args.options.now cut c.args.file_writer.now c.args.index_writer c.args.filter_writer c.args.meta.now p c.in_ok-index_blocks.ensures.refused (c.in_ok-filter_blocks.ensures.refused keys p.keys)) c.write_meta.ensures.err

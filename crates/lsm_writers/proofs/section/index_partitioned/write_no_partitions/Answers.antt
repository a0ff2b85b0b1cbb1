-- The section of the partitions has no bytes.
use Rattle.std.proofs.Common.{◌≡◌, ap, refl}
use Rattle.sst_entries.proofs.StreamLemmas.{on_err}
use Rattle.sst_blocks.specs.Sections.{Written}
use Rattle.sst_blocks.proofs.Faults.{on_ok}
use Rattle.lsm_writers.proofs.Behind.{no_index_yet, no_top_level_yet}
use Rattle.lsm_writers.proofs.Empty.{empty_sections, still_no_bytes}
use Rattle.lsm_writers.proofs.section.index_partitioned.write_no_partitions.Goals as goal

pub start-requires : goal.start-requires
start-requires g c = no_index_yet c.args.writer.now c.requires

pub write_empty_top_level-requires : goal.write_empty_top_level-requires
write_empty_top_level-requires g c = no_top_level_yet c.args.writer.now c.start.new.self c.start.new.self c.requires c.in_ok-start.ensures.ok refl

pub returns-in_err-start-clause-bytes : goal.returns-in_err-start-clause-bytes
returns-in_err-start-clause-bytes g c =
    let same : c.start.new.self.bytes ≡ c.args.writer.now.bytes = ap (λ (y : Written). y.bytes) c.in_err-start.ensures.unchanged in
    on_err c.from_residual.result same

pub returns-clause-ok : goal.returns-clause-ok
returns-clause-ok g c =
    on_ok _ _ c.write_empty_top_level.result c.write_empty_top_level.ensures.ok
    (λ top. empty_sections c.args.writer.now c.start.new.self c.write_empty_top_level.new.writer c.in_ok-start.ensures.ok top)

pub returns-clause-bytes : goal.returns-clause-bytes
returns-clause-bytes g c =
    still_no_bytes c.write_empty_top_level.result c.args.writer.now c.start.new.self c.write_empty_top_level.new.writer _ c.in_ok-start.ensures.ok c.write_empty_top_level.ensures.bytes

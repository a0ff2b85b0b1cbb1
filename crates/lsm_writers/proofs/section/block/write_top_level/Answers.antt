-- The section has the one block.
use Rattle.sst_blocks.specs.declared.section.SectionName.TheVariants.{Tli}
use Rattle.sst_blocks.specs.declared.version.TableVersion.TheVariants.{V4}
use Rattle.sst_blocks.specs.table.Partitions.{handles_block}
use Rattle.lsm_writers.proofs.Behind.{front_after, front_begun, front_longer, front_same}
use Rattle.lsm_writers.proofs.Behind.{section_more}
use Rattle.lsm_writers.proofs.section.block.write_top_level.Goals as goal

pub returns-in_err-start-clause-before : goal.returns-in_err-start-clause-before
returns-in_err-start-clause-before g c = front_begun c.args.writer.now c.start.new.self c.args.writer.now.started c.in_err-start.ensures.unchanged

pub returns-in_err-write_block-clause-before : goal.returns-in_err-write_block-clause-before
returns-in_err-write_block-clause-before g c =
    front_same c.args.writer.now c.start.new.self c.write_block.new.writer (front_begun c.args.writer.now c.start.new.self _ c.in_ok-start.ensures.ok)
    c.in_err-write_block.ensures.unchanged

pub returns-clause-ok : goal.returns-clause-ok
returns-clause-ok g c =
    section_more c.args.writer.now c.start.new.self c.write_block.new.writer Tli (handles_block V4 c.args.handles.now) c.in_ok-start.ensures.ok c.in_ok-write_block.ensures.ok

pub returns-clause-before : goal.returns-clause-before
returns-clause-before g c =
    front_after c.args.writer.now c.start.new.self c.write_block.new.writer (front_begun c.args.writer.now c.start.new.self _ c.in_ok-start.ensures.ok)
    (front_longer c.start.new.self c.write_block.new.writer _ c.in_ok-write_block.ensures.ok)

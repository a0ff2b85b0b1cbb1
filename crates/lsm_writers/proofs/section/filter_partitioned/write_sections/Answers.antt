-- The top level has the handles of the parts.
use Rattle.std.proofs.Common.{ap, ◌∙◌, length, arith}
use Rattle.sst_entries.proofs.Refusals.{faults_refusal}
use Rattle.lsm_writers.proofs.Sections.{front_after, front_behind, length_tops, no_filter_yet}
use Rattle.lsm_writers.proofs.Sections.{no_top_level_yet, parts_behind, tops_fault, tops_fit}
use Rattle.lsm_writers.proofs.Sections.{tops_strict}
use Rattle.lsm_writers.proofs.Behind.{front_begun}
use Rattle.lsm_writers.proofs.section.filter_partitioned.write_sections.Goals as goal

pub returns-in_err-start-clause-before : goal.returns-in_err-start-clause-before
returns-in_err-start-clause-before g c = front_begun c.args.writer.now c.start.new.self c.args.writer.now.started c.in_err-start.ensures.unchanged

pub returns-in_err-handles-clause-before : goal.returns-in_err-handles-clause-before
returns-in_err-handles-clause-before g c =
    front_behind c.args.writer.now c.start.new.self _ c.write_partitions.new.writer.bytes c.in_ok-start.ensures.ok c.write_partitions.ensures.before

pub write_top_level-requires-clause-strict : goal.write_top_level-requires-clause-strict
write_top_level-requires-clause-strict g c =
    tops_strict (length c.start.new.self.bytes) c.args.partitions.items c.in_ok-handles.handles.items c.in_ok-handles.ensures.handles c.requires.rising

pub returns-in_err-write_top_level-clause-before : goal.returns-in_err-write_top_level-clause-before
returns-in_err-write_top_level-clause-before g c =
    front_after c.args.writer.now.bytes c.write_partitions.new.writer.bytes c.write_top_level.new.writer.bytes
    (front_behind c.args.writer.now c.start.new.self _ c.write_partitions.new.writer.bytes c.in_ok-start.ensures.ok c.write_partitions.ensures.before)
    c.write_top_level.ensures.before

pub returns-in_err-write_top_level-clause-refused : goal.returns-in_err-write_top_level-clause-refused
returns-in_err-write_top_level-clause-refused g c =
    faults_refusal c.from_residual-in_err-write_top_level.result c.in_err-write_top_level.field-0.0 _ c.from_residual-in_err-write_top_level.ensures.1
    (λ m. tops_fault (length c.start.new.self.bytes) c.args.partitions.items c.in_ok-handles.handles.items c.in_ok-handles.ensures.handles
    ∙ c.in_err-write_top_level.ensures.refused m)

pub returns-clause-ok : goal.returns-clause-ok
returns-clause-ok g c =
    parts_behind c.args.writer.now c.start.new.self c.write_partitions.new.writer c.write_top_level.new.writer c.args.partitions.items c.in_ok-handles.handles.items
    c.in_ok-start.ensures.ok c.in_ok-handles.ensures.ok c.write_partitions.ensures.started c.in_ok-handles.ensures.handles c.in_ok-write_top_level.ensures.ok

pub returns-clause-short : goal.returns-clause-short
returns-clause-short g c =
    tops_fit c.args.writer.now c.start.new.self c.args.partitions.items c.in_ok-handles.handles.items c.in_ok-start.ensures.ok c.in_ok-handles.ensures.handles
    c.in_ok-write_top_level.ensures.short

pub returns-clause-count : goal.returns-clause-count
returns-clause-count g c =
    omega (arith, c.len.ensures, c.in_ok-handles.handles.ok.0, ap length c.in_ok-handles.ensures.handles, length_tops (length c.start.new.self.bytes) c.args.partitions.items)

pub returns-clause-before : goal.returns-clause-before
returns-clause-before g c =
    front_after c.args.writer.now.bytes c.write_partitions.new.writer.bytes c.write_top_level.new.writer.bytes
    (front_behind c.args.writer.now c.start.new.self _ c.write_partitions.new.writer.bytes c.in_ok-start.ensures.ok c.write_partitions.ensures.before)
    c.write_top_level.ensures.before

pub returns-clause-refused : goal.returns-clause-refused
returns-clause-refused g c =
    tops_fault (length c.start.new.self.bytes) c.args.partitions.items c.in_ok-handles.handles.items c.in_ok-handles.ensures.handles
    ∙ c.in_ok-write_top_level.ensures.refused

pub start-requires : goal.start-requires
start-requires g c = no_filter_yet c.args.writer.now c.requires.unwritten

pub write_top_level-requires-clause-unwritten : goal.write_top_level-requires-clause-unwritten
write_top_level-requires-clause-unwritten g c =
    no_top_level_yet c.args.writer.now c.start.new.self c.write_partitions.new.writer c.requires.unwritten c.in_ok-start.ensures.ok c.write_partitions.ensures.started

-- The top level has the handles of the parts.
use Rattle.std.proofs.Common.{ap, ◌∙◌}
use Rattle.sst_blocks.specs.Sections.{Written}
use Rattle.sst_entries.proofs.Refusals.{faults_refusal}
use Rattle.lsm_writers.proofs.Behind.{bytes_stay, front_after, front_begun, no_index_yet}
use Rattle.lsm_writers.proofs.Behind.{no_top_level_yet}
use Rattle.lsm_writers.proofs.SectionFinishing.{all_behind, all_fit, parts_refused, top_count}
use Rattle.lsm_writers.proofs.SectionFinishing.{top_fault, top_strict}
use Rattle.lsm_writers.proofs.section.index_partitioned.write_sections.Goals as goal

pub returns-in_err-handles-clause-before : goal.returns-in_err-handles-clause-before
returns-in_err-handles-clause-before g c = bytes_stay c.args.writer.now

pub returns-in_err-start-clause-before : goal.returns-in_err-start-clause-before
returns-in_err-start-clause-before g c = front_begun c.args.writer.now c.start.new.self c.args.writer.now.started c.in_err-start.ensures.unchanged

pub returns-in_err-write_partitions-clause-before : goal.returns-in_err-write_partitions-clause-before
returns-in_err-write_partitions-clause-before g c =
    front_after c.args.writer.now c.start.new.self c.write_partitions.new.writer (front_begun c.args.writer.now c.start.new.self _ c.in_ok-start.ensures.ok)
    c.write_partitions.ensures.before

pub returns-in_err-write_partitions-clause-refused : goal.returns-in_err-write_partitions-clause-refused
returns-in_err-write_partitions-clause-refused g c =
    parts_refused c.args.kept.handles c.deref.result.now c.args.partition_size (c.deref.ensures.value ∙ c.in_ok-handles.ensures.ok) c.from_residual-in_err-write_partitions.result c.in_err-write_partitions.field-0.0
    c.from_residual-in_err-write_partitions.ensures.1 c.in_err-write_partitions.ensures.refused

pub write_top_level-requires-clause-strict : goal.write_top_level-requires-clause-strict
write_top_level-requires-clause-strict g c =
    top_strict c.args.kept.handles c.deref.result.now c.args.partition_size (c.deref.ensures.value ∙ c.in_ok-handles.ensures.ok)
    c.args.writer.now c.start.new.self c.write_partitions.new.writer c.write_partitions.new.tops.items c.deref-2.result.now c.in_ok-start.ensures.ok c.in_ok-write_partitions.ensures.tops c.deref-2.ensures.value
    c.requires.strict

pub returns-in_err-write_top_level-clause-before : goal.returns-in_err-write_top_level-clause-before
returns-in_err-write_top_level-clause-before g c =
    front_after c.args.writer.now c.write_partitions.new.writer c.write_top_level.new.writer
    (front_after c.args.writer.now c.start.new.self c.write_partitions.new.writer (front_begun c.args.writer.now c.start.new.self _ c.in_ok-start.ensures.ok)
    c.write_partitions.ensures.before)
    c.write_top_level.ensures.before

pub returns-in_err-write_top_level-clause-refused :
    goal.returns-in_err-write_top_level-clause-refused
returns-in_err-write_top_level-clause-refused g c =
    faults_refusal c.from_residual-in_err-write_top_level.result c.in_err-write_top_level.field-0.0 _ c.from_residual-in_err-write_top_level.ensures.1
    (λ m. top_fault c.args.kept.handles c.deref.result.now c.args.partition_size (c.deref.ensures.value ∙ c.in_ok-handles.ensures.ok)
    c.args.writer.now c.start.new.self c.write_partitions.new.writer c.write_partitions.new.tops.items c.deref-2.result.now c.in_ok-start.ensures.ok c.in_ok-write_partitions.ensures.tops c.deref-2.ensures.value
    c.in_ok-write_partitions.ensures.refused ∙ c.in_err-write_top_level.ensures.refused m)

pub returns-clause-ok : goal.returns-clause-ok
returns-clause-ok g c =
    all_behind c.args.kept.handles c.deref.result.now c.args.partition_size (c.deref.ensures.value ∙ c.in_ok-handles.ensures.ok)
    c.args.writer.now c.start.new.self c.write_partitions.new.writer c.write_partitions.new.tops.items c.deref-2.result.now c.in_ok-start.ensures.ok c.in_ok-write_partitions.ensures.tops c.deref-2.ensures.value
    c.write_top_level.new.writer c.in_ok-write_partitions.ensures.ok c.in_ok-write_top_level.ensures.ok

pub returns-clause-count : goal.returns-clause-count
returns-clause-count g c =
    c.len.ensures ∙ c.write_partitions.new.tops.ok.0
    ∙ top_count c.args.kept.handles c.deref.result.now c.args.partition_size (c.deref.ensures.value ∙ c.in_ok-handles.ensures.ok)
    c.args.writer.now c.start.new.self c.write_partitions.new.writer c.write_partitions.new.tops.items c.deref-2.result.now c.in_ok-start.ensures.ok c.in_ok-write_partitions.ensures.tops c.deref-2.ensures.value

pub returns-clause-fits : goal.returns-clause-fits
returns-clause-fits g c =
    all_fit c.args.kept.handles c.deref.result.now c.args.partition_size (c.deref.ensures.value ∙ c.in_ok-handles.ensures.ok)
    c.args.writer.now c.start.new.self c.write_partitions.new.writer c.write_partitions.new.tops.items c.deref-2.result.now c.in_ok-start.ensures.ok c.in_ok-write_partitions.ensures.tops c.deref-2.ensures.value
    c.in_ok-write_partitions.ensures.short c.in_ok-write_top_level.ensures.short

pub returns-clause-before : goal.returns-clause-before
returns-clause-before g c =
    front_after c.args.writer.now c.write_partitions.new.writer c.write_top_level.new.writer
    (front_after c.args.writer.now c.start.new.self c.write_partitions.new.writer (front_begun c.args.writer.now c.start.new.self _ c.in_ok-start.ensures.ok)
    c.write_partitions.ensures.before)
    c.write_top_level.ensures.before

pub returns-clause-refused : goal.returns-clause-refused
returns-clause-refused g c =
    top_fault c.args.kept.handles c.deref.result.now c.args.partition_size (c.deref.ensures.value ∙ c.in_ok-handles.ensures.ok)
    c.args.writer.now c.start.new.self c.write_partitions.new.writer c.write_partitions.new.tops.items c.deref-2.result.now c.in_ok-start.ensures.ok c.in_ok-write_partitions.ensures.tops c.deref-2.ensures.value
    c.in_ok-write_partitions.ensures.refused ∙ c.in_ok-write_top_level.ensures.refused

pub returns-in_err-clone-clause-before : goal.returns-in_err-clone-clause-before
returns-in_err-clone-clause-before g c = front_begun c.args.writer.now c.start.new.self _ c.in_ok-start.ensures.ok

pub returns-in_err-clone-2-clause-before : goal.returns-in_err-clone-2-clause-before
returns-in_err-clone-2-clause-before g c = front_begun c.args.writer.now c.start.new.self _ c.in_ok-start.ensures.ok

pub start-requires : goal.start-requires
start-requires g c = no_index_yet c.args.writer.now c.requires.unwritten

pub write_top_level-requires-clause-unwritten : goal.write_top_level-requires-clause-unwritten
write_top_level-requires-clause-unwritten g c =
    no_top_level_yet c.args.writer.now c.start.new.self c.write_partitions.new.writer c.requires.unwritten c.in_ok-start.ensures.ok
    (ap (λ (y : Written). y.started) c.in_ok-write_partitions.ensures.ok)

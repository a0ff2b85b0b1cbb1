-- A handle waits, or fills a part that is written.
use Rattle.std.proofs.Common.{◌+◌, length, arith}
use Rattle.sst_entries.proofs.Refusals.{faults_refusal}
use Rattle.lsm_writers.proofs.SectionCutting.{all_fit, all_short, all_result, all_written, cut_filled}
use Rattle.lsm_writers.proofs.SectionCutting.{cut_none, cut_waits, done_front, done_length}
use Rattle.lsm_writers.proofs.SectionCutting.{front_stays, no_rest, part_done, part_fails}
use Rattle.lsm_writers.proofs.SectionCutting.{part_next, rest_next}
use Rattle.lsm_writers.proofs.Strict.{strict_range}
use Rattle.lsm_writers.proofs.section.index_partitioned.write_partitions.Goals as goal
use Rattle.lsm_writers.proofs.section.index_partitioned.write_partitions.Goals.{then-size-from+in_ok-write_partition}
use Rattle.lsm_writers.proofs.section.index_partitioned.write_partitions.Goals.{else-size-from}

pub loop-i-init : goal.loop-i-init
loop-i-init g c = cut_none c.args.partition_size c.args.handles.now c.args.writer.now c.args.tops.now.items c.requires.empty

pub write_partition-requires-clause-strict : goal.write_partition-requires-clause-strict
write_partition-requires-clause-strict g c = strict_range c.args.handles.now c.loop-i.start (c.loop-i.i + 1) c.requires.strict

pub write_partition-requires-then-start-handles-clause-strict :
    goal.write_partition-requires-then-start-handles-clause-strict
write_partition-requires-then-start-handles-clause-strict g c = strict_range c.args.handles.now c.loop-i.start (length c.args.handles.now) c.requires.strict

pub returns-in_err-write_partition-clause-before :
    goal.returns-in_err-write_partition-clause-before
returns-in_err-write_partition-clause-before g c =
    front_stays _ _ c.args.writer.now c.loop-i.writer c.loop-i.tops.items c.loop-i.invariant.upto c.write_partition.new.writer c.in_err-write_partition.ensures.before

pub returns-in_err-write_partition-clause-refused :
    goal.returns-in_err-write_partition-clause-refused
returns-in_err-write_partition-clause-refused g c =
    let now = c.loop-i in
    let next = part_next c.args.partition_size c.args.handles.now c.args.writer.now now.writer now.tops.items now.start now.i now.size now.invariant
    c.index-handles-i.result c.loop-i-test.true c.index-handles-i.is c.ranges.partition_size.fits c.with_handle-size.result c.with_handle-size.ensures (omega (arith, c.from.ensures, c.if-size-from.true)) in
    faults_refusal c.from_residual.result c.in_err-write_partition.field-0.0 _ c.from_residual.ensures.1
    (λ m. part_fails _ _ c.args.writer.now now.writer now.tops.items _ next c.position-base.result c.position-base.ensures c.in_err-write_partition.field-0.0 (c.in_err-write_partition.ensures.refused m))

pub loop-i-preserved : goal.loop-i-preserved
loop-i-preserved g c =
    let before = c.args.writer.now in
    let now = c.loop-i in
    elim c.if-size-from.branch [
      | then-size-from+in_ok-write_partition w ↦
          let next = part_next c.args.partition_size c.args.handles.now before now.writer now.tops.items now.start now.i now.size now.invariant
          c.index-handles-i.result c.loop-i-test.true c.index-handles-i.is c.ranges.partition_size.fits c.with_handle-size.result c.with_handle-size.ensures (omega (arith, c.from.ensures, w.if-size-from.true)) in
          let wrote = w.in_ok-write_partition.ensures in
          let done = part_done _ _ before now.writer now.tops.items _ next c.position-base.result c.position-base.ensures w.write_partition.new.writer w.write_partition.new.tops.items
          wrote.ok wrote.top wrote.bound wrote.short wrote.refused in
          rw (w.writer-is, w.tops-is, w.start-is, w.size-is)
          (cut_filled c.args.partition_size c.args.handles.now before now.writer now.tops.items now.start now.i now.size now.invariant
          c.index-handles-i.result c.loop-i-test.true c.index-handles-i.is c.ranges.partition_size.fits c.with_handle-size.result c.with_handle-size.ensures w.write_partition.new.writer w.write_partition.new.tops.items done)
      | else-size-from w ↦
          rw (w.writer-is, w.tops-is, w.start-is, w.size-is)
          (cut_waits c.args.partition_size c.args.handles.now before now.writer now.tops.items now.start now.i now.size now.invariant
          c.index-handles-i.result c.loop-i-test.true c.index-handles-i.is c.ranges.partition_size.fits c.with_handle-size.result c.with_handle-size.ensures (omega (arith, c.from.ensures, w.if-size-from.false)))
    ]

pub returns-in_err-write_partition-2-clause-before :
    goal.returns-in_err-write_partition-2-clause-before
returns-in_err-write_partition-2-clause-before g c =
    front_stays _ _ c.args.writer.now c.loop-i.writer c.loop-i.tops.items c.loop-i.invariant.upto c.write_partition-then-start-handles.new.writer c.in_err-write_partition-2.ensures.before

pub returns-in_err-write_partition-2-clause-refused :
    goal.returns-in_err-write_partition-2-clause-refused
returns-in_err-write_partition-2-clause-refused g c =
    let now = c.loop-i in
    let rest = rest_next c.args.partition_size c.args.handles.now c.args.writer.now now.writer now.tops.items now.start now.i now.size now.invariant c.loop-i-test.false c.if-start-handles.true in
    faults_refusal c.from_residual-in_err-write_partition-2.result c.in_err-write_partition-2.field-0.0 _ c.from_residual-in_err-write_partition-2.ensures.1
    (λ m. part_fails _ _ c.args.writer.now now.writer now.tops.items _ rest c.position-base.result c.position-base.ensures c.in_err-write_partition-2.field-0.0 (c.in_err-write_partition-2.ensures.refused m))

pub returns-in_ok-write_partition-2-clause-ok : goal.returns-in_ok-write_partition-2-clause-ok
returns-in_ok-write_partition-2-clause-ok g c =
    let now = c.loop-i in
    let rest = rest_next c.args.partition_size c.args.handles.now c.args.writer.now now.writer now.tops.items now.start now.i now.size now.invariant c.loop-i-test.false c.if-start-handles.true in
    let wrote = c.in_ok-write_partition-2.ensures in
    all_written _ c.args.writer.now c.write_partition-then-start-handles.new.writer c.write_partition-then-start-handles.new.tops.items
    (part_done _ _ c.args.writer.now now.writer now.tops.items _ rest c.position-base.result c.position-base.ensures _ _ wrote.ok wrote.top wrote.bound wrote.short wrote.refused)

pub returns-else-start-handles-clause-ok : goal.returns-else-start-handles-clause-ok
returns-else-start-handles-clause-ok g c =
    let now = c.loop-i in
    all_written _ c.args.writer.now now.writer now.tops.items
    (no_rest c.args.partition_size c.args.handles.now c.args.writer.now now.writer now.tops.items now.start now.i now.size now.invariant c.loop-i-test.false c.if-start-handles.false)

pub returns-in_ok-write_partition-2-clause-tops : goal.returns-in_ok-write_partition-2-clause-tops
returns-in_ok-write_partition-2-clause-tops g c =
    let now = c.loop-i in
    let rest = rest_next c.args.partition_size c.args.handles.now c.args.writer.now now.writer now.tops.items now.start now.i now.size now.invariant c.loop-i-test.false c.if-start-handles.true in
    let wrote = c.in_ok-write_partition-2.ensures in
    all_result _ c.args.writer.now c.write_partition-then-start-handles.new.writer c.write_partition-then-start-handles.new.tops.items
    (part_done _ _ c.args.writer.now now.writer now.tops.items _ rest c.position-base.result c.position-base.ensures _ _ wrote.ok wrote.top wrote.bound wrote.short wrote.refused)

pub returns-else-start-handles-clause-tops : goal.returns-else-start-handles-clause-tops
returns-else-start-handles-clause-tops g c =
    let now = c.loop-i in
    all_result _ c.args.writer.now now.writer now.tops.items
    (no_rest c.args.partition_size c.args.handles.now c.args.writer.now now.writer now.tops.items now.start now.i now.size now.invariant c.loop-i-test.false c.if-start-handles.false)

pub returns-in_ok-write_partition-2-clause-short : goal.returns-in_ok-write_partition-2-clause-short
returns-in_ok-write_partition-2-clause-short g c =
    let now = c.loop-i in
    let rest = rest_next c.args.partition_size c.args.handles.now c.args.writer.now now.writer now.tops.items now.start now.i now.size now.invariant c.loop-i-test.false c.if-start-handles.true in
    let wrote = c.in_ok-write_partition-2.ensures in
    all_short _ c.args.writer.now c.write_partition-then-start-handles.new.writer c.write_partition-then-start-handles.new.tops.items
    (part_done _ _ c.args.writer.now now.writer now.tops.items _ rest c.position-base.result c.position-base.ensures _ _ wrote.ok wrote.top wrote.bound wrote.short wrote.refused)

pub returns-else-start-handles-clause-short : goal.returns-else-start-handles-clause-short
returns-else-start-handles-clause-short g c =
    let now = c.loop-i in
    all_short _ c.args.writer.now now.writer now.tops.items
    (no_rest c.args.partition_size c.args.handles.now c.args.writer.now now.writer now.tops.items now.start now.i now.size now.invariant c.loop-i-test.false c.if-start-handles.false)

pub returns-in_ok-write_partition-2-clause-refused : goal.returns-in_ok-write_partition-2-clause-refused
returns-in_ok-write_partition-2-clause-refused g c =
    let now = c.loop-i in
    let rest = rest_next c.args.partition_size c.args.handles.now c.args.writer.now now.writer now.tops.items now.start now.i now.size now.invariant c.loop-i-test.false c.if-start-handles.true in
    let wrote = c.in_ok-write_partition-2.ensures in
    all_fit _ c.args.writer.now c.write_partition-then-start-handles.new.writer c.write_partition-then-start-handles.new.tops.items
    (part_done _ _ c.args.writer.now now.writer now.tops.items _ rest c.position-base.result c.position-base.ensures _ _ wrote.ok wrote.top wrote.bound wrote.short wrote.refused)

pub returns-else-start-handles-clause-refused : goal.returns-else-start-handles-clause-refused
returns-else-start-handles-clause-refused g c =
    let now = c.loop-i in
    all_fit _ c.args.writer.now now.writer now.tops.items
    (no_rest c.args.partition_size c.args.handles.now c.args.writer.now now.writer now.tops.items now.start now.i now.size now.invariant c.loop-i-test.false c.if-start-handles.false)

pub returns-in_ok-write_partition-2-clause-before : goal.returns-in_ok-write_partition-2-clause-before
returns-in_ok-write_partition-2-clause-before g c =
    front_stays _ _ c.args.writer.now c.loop-i.writer c.loop-i.tops.items c.loop-i.invariant.upto c.write_partition-then-start-handles.new.writer c.in_ok-write_partition-2.ensures.before

pub returns-else-start-handles-clause-before : goal.returns-else-start-handles-clause-before
returns-else-start-handles-clause-before g c = done_front _ _ c.args.writer.now c.loop-i.writer c.loop-i.tops.items c.loop-i.invariant.upto

pub write_partition-requires-clause-behind : goal.write_partition-requires-clause-behind
write_partition-requires-clause-behind g c =
    omega (arith, c.position-base.ensures, done_length _ _ c.args.writer.now c.loop-i.writer c.loop-i.tops.items c.loop-i.invariant.upto)

pub write_partition-requires-then-start-handles-clause-behind : goal.write_partition-requires-then-start-handles-clause-behind
write_partition-requires-then-start-handles-clause-behind g c =
    omega (arith, c.position-base.ensures, done_length _ _ c.args.writer.now c.loop-i.writer c.loop-i.tops.items c.loop-i.invariant.upto)

-- One part more is written.
use Rattle.std.proofs.Common.{refl}
use Rattle.std.proofs.lemmas.Iterator.Adapters.{YieldsList-from_vec}
use Rattle.std.proofs.lemmas.Iterator.Consumers.{YieldsList-end}
use Rattle.lsm_writers.proofs.Sections.{front_longer, front_stays, front_unchanged, written_all}
use Rattle.lsm_writers.proofs.Sections.{written_more, written_none}
use Rattle.lsm_writers.proofs.Behind.{bytes_stay}
use Rattle.lsm_writers.proofs.section.filter_partitioned.write_partitions.Goals as goal

pub loop-partition-init : goal.loop-partition-init
loop-partition-init g c = written_none c.args.writer.now c.args.writer.now c.new-handles.result.items refl c.new-handles.ensures.items

pub returns-in_err-handle-clause-before : goal.returns-in_err-handle-clause-before
returns-in_err-handle-clause-before g c =
    front_unchanged c.args.writer.now c.loop-partition.writer c.write_partition.new.writer c.loop-partition.yielded c.loop-partition.handles.items c.loop-partition.invariant
    c.in_err-handle.ensures.unchanged

pub returns-in_err-push-clause-before : goal.returns-in_err-push-clause-before
returns-in_err-push-clause-before g c =
    front_longer c.args.writer.now c.loop-partition.writer c.write_partition.new.writer c.loop-partition.yielded c.loop-partition.handles.items _ c.loop-partition.invariant
    c.in_ok-handle.ensures.ok

pub loop-partition-preserved : goal.loop-partition-preserved
loop-partition-preserved g c =
    written_more c.args.writer.now c.loop-partition.writer c.write_partition.new.writer c.loop-partition.yielded c.loop-partition.handles.items c.in-Some.partition
    c.in_ok-handle.handle c.push.new.self.items c.loop-partition.invariant c.in_ok-handle.ensures.ok c.in_ok-handle.ensures.handle c.in_ok-push.ensures.items

pub returns-clause-before : goal.returns-clause-before
returns-clause-before g c = front_stays c.args.writer.now c.loop-partition.writer c.loop-partition.yielded c.loop-partition.handles.items c.loop-partition.invariant

pub returns-clause-ok : goal.returns-clause-ok
returns-clause-ok g c =
    let ended = YieldsList-end (YieldsList-from_vec {s = c.into_iter-partition-iterator.result} c.args.partitions.items (cc) (cc)) c.loop-partition.yielded _ c.loop-partition.yielded_by c.next.result c.next.new.self c.in-None.is c.next.ensures.steps in
    (written_all c.args.writer.now c.loop-partition.writer c.loop-partition.yielded c.args.partitions.items c.loop-partition.handles.items c.loop-partition.invariant ended.0).bytes

pub returns-clause-handles : goal.returns-clause-handles
returns-clause-handles g c =
    let ended = YieldsList-end (YieldsList-from_vec {s = c.into_iter-partition-iterator.result} c.args.partitions.items (cc) (cc)) c.loop-partition.yielded _ c.loop-partition.yielded_by c.next.result c.next.new.self c.in-None.is c.next.ensures.steps in
    (written_all c.args.writer.now c.loop-partition.writer c.loop-partition.yielded c.args.partitions.items c.loop-partition.handles.items c.loop-partition.invariant ended.0).handles

pub returns-clause-started : goal.returns-clause-started
returns-clause-started g c = c.loop-partition.invariant.started

pub returns-in_err-clone-clause-before : goal.returns-in_err-clone-clause-before
returns-in_err-clone-clause-before g c = bytes_stay c.args.writer.now

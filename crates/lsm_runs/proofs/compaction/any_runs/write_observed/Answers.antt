use Rattle.lsm_runs.proofs.Endings.{ends_so}
use Rattle.lsm_runs.proofs.compaction.any_runs.write_observed.Goals as goal

pub returns-clause-written : goal.returns-clause-written
returns-clause-written g c =
    let o = c.ended.ensures in
    let e = c.write_while_observed-ending in
    (ends_so _ g.O.CompactionObserver.says c.args.writer e.new.writer c.args.source.now c.args.observer.now e.new.source e.new.observer c.requires.fresh c.requires.next e.result c.ended.result o.tables o.refused o.disorder o.stop o.passed e.ensures.took e.ensures.wrote e.ensures.refused).written

pub returns-clause-made : goal.returns-clause-made
returns-clause-made g c =
    let o = c.ended.ensures in
    let e = c.write_while_observed-ending in
    (ends_so _ g.O.CompactionObserver.says c.args.writer e.new.writer c.args.source.now c.args.observer.now e.new.source e.new.observer c.requires.fresh c.requires.next e.result c.ended.result o.tables o.refused o.disorder o.stop o.passed e.ensures.took e.ensures.wrote e.ensures.refused).made

pub returns-clause-returned : goal.returns-clause-returned
returns-clause-returned g c =
    let o = c.ended.ensures in
    let e = c.write_while_observed-ending in
    (ends_so _ g.O.CompactionObserver.says c.args.writer e.new.writer c.args.source.now c.args.observer.now e.new.source e.new.observer c.requires.fresh c.requires.next e.result c.ended.result o.tables o.refused o.disorder o.stop o.passed e.ensures.took e.ensures.wrote e.ensures.refused).returned

pub returns-clause-refused : goal.returns-clause-refused
returns-clause-refused g c =
    let o = c.ended.ensures in
    let e = c.write_while_observed-ending in
    (ends_so _ g.O.CompactionObserver.says c.args.writer e.new.writer c.args.source.now c.args.observer.now e.new.source e.new.observer c.requires.fresh c.requires.next e.result c.ended.result o.tables o.refused o.disorder o.stop o.passed e.ensures.took e.ensures.wrote e.ensures.refused).refused

use Rattle.std.specs.Arc.{arc_value}
use Rattle.lsm_tables.proofs.TableLaws.{share_all, share_next, share_none}
use Rattle.example_calling.proofs.part.share_behind.Goals as goal

pub loop-run-init : goal.loop-run-init
loop-run-init g c = share_none arc_value c.args.runs.now c.args.shared.now.items

pub loop-run-preserved : goal.loop-run-preserved
loop-run-preserved g c = rw c.in_ok-push.ensures.items
    (share_next arc_value c.args.runs.now c.loop-run.run-index c.run-item.result c.in_ok-clone.field-0 c.loop-run-test.true c.run-item.is c.args.shared.now.items c.loop-run.shared.items c.loop-run.invariant c.in_ok-clone.ensures.cases)

pub returns-clause-runs : goal.returns-clause-runs
returns-clause-runs g c = share_all arc_value c.args.runs.now c.loop-run.run-index c.args.shared.now.items c.loop-run.shared.items c.loop-run.invariant c.loop-run-test.false

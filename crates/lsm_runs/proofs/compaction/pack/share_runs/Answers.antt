use Rattle.std.proofs.Common.{◌∙◌, sym}
use Rattle.std.specs.Arc.{arc_value}
use Rattle.lsm_runs.proofs.PackingRuns.{share_more, share_none}
use Rattle.lsm_runs.proofs.compaction.pack.share_runs.Goals as goal
use Rattle.lsm_runs.proofs.compaction.pack.share_runs.Goals.{in-Some+in_ok-push, in_default}

pub loop-run-preserved : goal.loop-run-preserved
loop-run-preserved g c =
    let runs = c.args.runs.now in
    let i = c.loop-run.run-index in
    let run = c.run-item.result in
    let shared = c.loop-run.shared.items in
    elim c.match-new.branch [
      | in-Some+in_ok-push w ↦
          let same = w.in-Some.ensures in
          rw (w.shared-is, w.in_ok-push.ensures.items)
          (share_more arc_value runs i run c.loop-run-test.true c.run-item.is shared c.loop-run.invariant w.in-Some.run' (same.0 ∙ c.in_ok-share_tables.ensures.tables ∙ c.deref.ensures) (λ none. same.1 (sym same.0 ∙ none)))
      | in_default w ↦
          rw w.shared-is
          (share_none arc_value runs i run c.loop-run-test.true c.run-item.is shared c.loop-run.invariant c.in_ok-share_tables.field-0.items (c.in_ok-share_tables.ensures.tables ∙ c.deref.ensures) w.in_default.ensures)
    ]

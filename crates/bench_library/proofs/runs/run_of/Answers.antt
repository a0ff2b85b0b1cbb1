use Rattle.std.proofs.Common.{sym, subst}
use Rattle.lsm_runs.specs.compaction.ListRuns.{HasList}
use Rattle.lsm_runs.proofs.ListRuns.{of_cut_unlifted}
use Rattle.bench_library.proofs.runs.run_of.Goals as goal

pub returns-in_ok-new-in-Some : goal.returns-in_ok-new-in-Some
returns-in_ok-new-in-Some c =
    let es = c.args.items.items in
    let is = rw c.in-Some.is at c.in_ok-run.ensures.run in
    let cut = rw c.in-Some.is at c.in_ok-run.ensures.cut in
    subst (HasList es) (sym c.in_ok-new-in-Some.ensures.ok)
    (of_cut_unlifted _ _ es c.in-Some.run' is cut)

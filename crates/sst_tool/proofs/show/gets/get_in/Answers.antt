use Rattle.std.proofs.Common.{ℕ, ◌∷◌, [], List, subst}
use Rattle.std.specs.Prelude.{Err, Option, Some}
use Rattle.sst_entries.specs.Entry.{Entry}
use Rattle.lsm_files.specs.Results.{FileGives}
use Rattle.lsm_runs.specs.SeveralRuns.{run_read}
use Rattle.sst_tool.specs.show.Gets.{FailsGet}
use Rattle.sst_tool.proofs.Gets.{read_fails}
use Rattle.sst_tool.proofs.show.gets.get_in.Goals as goal

pub returns-clause-fault : goal.returns-clause-fault
returns-clause-fault g c known =
    let reads = g.R.ReadAt.reads in
    let o = c.args.options.now in
    let t = c.in_ok-table.table in
    let gives = subst (λ (n : ℕ). FileGives {X = Option Entry} {Y = Option Entry} reads (λ x. x)
    (Err c.in-Err.error) (run_read o.key.now n (t ∷ [])).returned) c.seen_below.ensures
    (c.in-Err.ensures.found known) in
    subst (λ (bs : List ℕ). FailsGet reads o (Some bs) c.args.path c.failure_of.result)
    c.in_ok-table.ensures.bytes
    (read_fails reads o t c.args.path c.in-Err.error c.failure_of.result
    (c.in_ok-table.ensures.recovered known) gives (c.in-Err.ensures.sound known)
    c.failure_of.ensures)

use Rattle.std.proofs.Common.{◌≡◌, ap, List, [], ◌∷◌}
use Rattle.std.specs.Prelude.{IfErr, IfOk, None, Ok}
use Rattle.sst_entries.specs.Error.{Fails}
use Rattle.lsm_readers.specs.point.Table.{OpenTable}
use Rattle.lsm_runs.specs.SeveralRuns.{runs_result}
use Rattle.example_calling.proofs.OneRun.{of_one, over_one}
use Rattle.lsm_runs.proofs.RunBack.{reads_back, run_held}
use Rattle.example_calling.proofs.reads.read_run.Goals as goal

pub returns-clause-list : goal.returns-clause-list
returns-clause-list g c es n h =
    let a = c.args in
    let held = run_held es n a.run h _ (ap (λ (r : List OpenTable). r ∷ []) c.in_ok-new.ensures.ok) in
    reads_back es n a.run h _ _ a.key.now a.seqno a.range.0 a.range.1 c.read_runs.result (c.read_runs.ensures.list (h.lists ∷ []) held)

pub returns-clause-taken : goal.returns-clause-taken
returns-clause-taken g c es n h =
    let a = c.args in
    let held = run_held es n a.run h _ (ap (λ (r : List OpenTable). r ∷ []) c.in_ok-new.ensures.ok) in
    c.read_runs.ensures.taken (h.lists ∷ []) held

pub returns-clause-returned : goal.returns-clause-returned
returns-clause-returned g c =
    let a = c.args in
    of_one (λ (rs : List (List OpenTable)). IfOk c.read_runs.result (λ read. runs_result a.key.now a.seqno None rs ≡ Ok read.0)) _ a.run (ap (λ (r : List OpenTable). r ∷ []) c.in_ok-new.ensures.ok) c.read_runs.ensures.returned

pub returns-clause-fails : goal.returns-clause-fails
returns-clause-fails g c =
    let a = c.args in
    of_one (λ (rs : List (List OpenTable)). IfErr c.read_runs.result (λ e. Fails e (runs_result a.key.now a.seqno None rs))) _ a.run (ap (λ (r : List OpenTable). r ∷ []) c.in_ok-new.ensures.ok) c.read_runs.ensures.fails

pub returns-clause-steps : goal.returns-clause-steps
returns-clause-steps g c =
    let a = c.args in
    over_one _ _ a.range.0 a.range.1 c.read_runs.result _ a.run (ap (λ (r : List OpenTable). r ∷ []) c.in_ok-new.ensures.ok) c.read_runs.ensures.steps

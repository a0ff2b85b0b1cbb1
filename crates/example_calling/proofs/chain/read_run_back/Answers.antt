use Rattle.std.proofs.Common.{◌∙◌, ap, sym, ℕ}
use Rattle.std.specs.Prelude.{Option}
use Rattle.sst_entries.proofs.Refusals.{faults_memory}
use Rattle.lsm_runs.specs.compaction.Chain.{chain_fault}
use Rattle.lsm_runs.proofs.Compactable.{some_listed}
use Rattle.lsm_runs.proofs.RunWriting.{wants}
use Rattle.example_calling.proofs.chain.read_run_back.Goals as goal

pub returns-in_err-read_run-in-Some-clause-taken : goal.returns-in_err-read_run-in-Some-clause-taken
returns-in_err-read_run-in-Some-clause-taken g c fits small =
    let a = c.args in
    let is = rw c.in-Some.is at c.in_ok-run.ensures.run in
    let r = c.from_residual-in_err-read_run-in-Some in
    wants r.result c.in_err-read_run-in-Some.field-0.0 r.ensures.1 (c.in_err-read_run-in-Some.ensures.taken a.items.items a.global_seqno is)

pub returns-in_err-read_run-in-Some-clause-refused :
    goal.returns-in_err-read_run-in-Some-clause-refused
returns-in_err-read_run-in-Some-clause-refused g c =
    let a = c.args in
    let is = rw c.in-Some.is at c.in_ok-run.ensures.run in
    let r = c.from_residual-in_err-read_run-in-Some in
    let e = c.in_err-read_run-in-Some.field-0.0 in
    let memory = c.in_err-read_run-in-Some.ensures.taken a.items.items a.global_seqno is in
    faults_memory r.result e _ r.ensures.1 memory

pub returns-in_ok-read_run-in-Some-clause-list : goal.returns-in_ok-read_run-in-Some-clause-list
returns-in_ok-read_run-in-Some-clause-list g c =
    let a = c.args in
    let is = rw c.in-Some.is at c.in_ok-run.ensures.run in
    c.in_ok-read_run-in-Some.ensures.list a.items.items a.global_seqno is

pub returns-in_ok-read_run-in-Some-clause-none : goal.returns-in_ok-read_run-in-Some-clause-none
returns-in_ok-read_run-in-Some-clause-none g c =
    let h = rw c.in-Some.is at c.in_ok-run.ensures.run in
    let cut = rw c.in-Some.is at c.in_ok-run.ensures.cut in
    some_listed _ _ c.args.items.items c.args.global_seqno c.in-Some.run' h cut

pub returns-in_ok-read_run-in-Some-clause-refused :
    goal.returns-in_ok-read_run-in-Some-clause-refused
returns-in_ok-read_run-in-Some-clause-refused g c =
    let a = c.args in
    sym (ap (λ (o : Option ℕ). chain_fault o a.target_size 0 a.items.items a.global_seqno) c.new-ids.ensures)
    ∙ sym (ap (λ (m : ℕ). chain_fault c.new-ids.result a.target_size m a.items.items a.global_seqno) c.from-created_at.ensures)
    ∙ c.in_ok-run.ensures.refused

pub returns-in-None-clause-refused : goal.returns-in-None-clause-refused
returns-in-None-clause-refused g c =
    let a = c.args in
    sym (ap (λ (o : Option ℕ). chain_fault o a.target_size 0 a.items.items a.global_seqno) c.new-ids.ensures)
    ∙ sym (ap (λ (m : ℕ). chain_fault c.new-ids.result a.target_size m a.items.items a.global_seqno) c.from-created_at.ensures)
    ∙ c.in_ok-run.ensures.refused

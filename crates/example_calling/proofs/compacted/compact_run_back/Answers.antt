use Rattle.sst_entries.proofs.Refusals.{faults_refusal, faults_memory}
use Rattle.lsm_sorted.specs.Compaction.{kept, unfiltered}
use Rattle.lsm_runs.specs.compaction.Chain.{both_fault}
use Rattle.lsm_runs.proofs.CompactedBack.{unlifted}
use Rattle.example_calling.proofs.compacted.compact_run_back.Goals as goal

pub returns-in_ok-read_run-in-Some-clause-list : goal.returns-in_ok-read_run-in-Some-clause-list
returns-in_ok-read_run-in-Some-clause-list g c =
    let a = c.args in
    let left = kept a.rules (unfiltered a.items.items) in
    let is = rw c.in-Some.is at c.in_ok-run.ensures.run in
    unlifted _ _ a.key.now a.seqno a.range.0 a.range.1 left c.in_ok-read_run-in-Some.field-0 (c.in_ok-read_run-in-Some.ensures.list left 0 is)

pub returns-in_ok-read_run-in-Some-clause-none : goal.returns-in_ok-read_run-in-Some-clause-none
returns-in_ok-read_run-in-Some-clause-none g c = rw c.in-Some.is at c.in_ok-run.ensures.none

pub returns-in_err-run-clause-refused : goal.returns-in_err-run-clause-refused
returns-in_err-run-clause-refused g c tables are =
    let a = c.args in
    let left = kept a.rules (unfiltered a.items.items) in
    let r = c.from_residual in
    faults_refusal r.result c.in_err-run.field-0.0 (both_fault a.target_size a.items.items tables left) r.ensures.1 (c.in_err-run.ensures.refused tables are)

pub returns-in_err-read_run-in-Some-clause-refused :
    goal.returns-in_err-read_run-in-Some-clause-refused
returns-in_err-read_run-in-Some-clause-refused g c tables are =
    let a = c.args in
    let left = kept a.rules (unfiltered a.items.items) in
    let is = rw c.in-Some.is at c.in_ok-run.ensures.run in
    let e = c.in_err-read_run-in-Some.field-0.0 in
    let r = c.from_residual-in_err-read_run-in-Some in
    let memory = c.in_err-read_run-in-Some.ensures.taken left 0 is in
    faults_memory r.result e _ r.ensures.1 memory

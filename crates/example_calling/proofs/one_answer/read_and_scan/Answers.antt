use Rattle.std.proofs.Common.{ap, refl}
use Rattle.sst_entries.proofs.Refusals.{faults_refusal}
use Rattle.lsm_readers.specs.Scan.{fault_of}
use Rattle.lsm_runs.specs.compaction.Written.{reads_fault}
use Rattle.sst_entries.specs.Point.{point}
use Rattle.lsm_writers.proofs.CutTables.{some_length}
use Rattle.lsm_readers.specs.point.Answer.{lift}
use Rattle.lsm_runs.proofs.Opening.{or_fine, or_first, or_second, reads}
use Rattle.lsm_runs.proofs.RunBack.{reported_alone}
use Rattle.lsm_runs.proofs.RunWriting.{wants}
use Rattle.example_calling.proofs.one_answer.read_and_scan.Goals as goal

pub returns-in_err-found-clause-err : goal.returns-in_err-found-clause-err
returns-in_err-found-clause-err g c es t some =
    let a = c.args in
    let e = c.in_err-found.field-0.0 in
    wants c.from_residual.result e c.from_residual.ensures.1
    (reported_alone (point (lift es a.table.now.global_seqno) a.key.now a.seqno) e (c.in_err-found.ensures.list es t))

pub returns-in_err-scan-clause-err : goal.returns-in_err-scan-clause-err
returns-in_err-scan-clause-err g c es t some =
    let e = c.in_err-scan.field-0.0 in
    wants c.from_residual-in_err-scan.result e c.from_residual-in_err-scan.ensures.1
    (c.in_err-scan.ensures.list es t (some_length es some))

pub returns-clause-list : goal.returns-clause-list
returns-clause-list g c es t =
    let n = c.args.table.now.global_seqno in
    reads es n n c.args.key.now c.args.seqno c.in_ok-found.found c.in_ok-scan.field-0 refl
    (c.in_ok-found.ensures.list es t) (c.in_ok-scan.ensures.list es t)

pub returns-in_err-found-clause-refused : goal.returns-in_err-found-clause-refused
returns-in_err-found-clause-refused g c =
    let a = c.args in
    let e = c.in_err-found.field-0.0 in
    faults_refusal c.from_residual.result e (reads_fault a.table.now a.key.now a.seqno) c.from_residual.ensures.1
    (λ memory. or_first _ _ e (ap (λ r. fault_of r) (c.in_err-found.ensures.returned memory)))

pub returns-in_err-scan-clause-refused : goal.returns-in_err-scan-clause-refused
returns-in_err-scan-clause-refused g c =
    let a = c.args in
    let e = c.in_err-scan.field-0.0 in
    faults_refusal c.from_residual-in_err-scan.result e (reads_fault a.table.now a.key.now a.seqno) c.from_residual-in_err-scan.ensures.1
    (λ memory. or_second _ _ e (ap (λ r. fault_of r) c.in_ok-found.ensures.returned) (c.in_err-scan.ensures.refused memory))

pub returns-clause-refused : goal.returns-clause-refused
returns-clause-refused g c = or_fine _ _ (ap (λ r. fault_of r) c.in_ok-found.ensures.returned) c.in_ok-scan.ensures.refused

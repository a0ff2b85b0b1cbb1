use Rattle.sst_entries.proofs.Refusals.{faults_refusal}
use Rattle.lsm_runs.proofs.Opening.{read_alone, reads, scan_alone}
use Rattle.example_calling.proofs.written.read_back.Goals as goal

pub returns-in_err-found-in-Some-clause-refused : goal.returns-in_err-found-in-Some-clause-refused
returns-in_err-found-in-Some-clause-refused g c =
    let o = rw c.in-Some.is at c.in_ok-write_and_open.ensures.table in
    let e = c.in_err-found-in-Some.field-0.0 in
    faults_refusal c.from_residual-in_err-found-in-Some.result e _ c.from_residual-in_err-found-in-Some.ensures.1
    (read_alone _ e (c.in_err-found-in-Some.ensures.list c.args.items.items (c.tells_its_list.ensures.written c.args.items.items o.table).0) _)

pub returns-in_err-scanner-in-Some-clause-refused : goal.returns-in_err-scanner-in-Some-clause-refused
returns-in_err-scanner-in-Some-clause-refused g c =
    let o = rw c.in-Some.is at c.in_ok-write_and_open.ensures.table in
    let e = c.in_err-scanner-in-Some.field-0.0 in
    faults_refusal c.from_residual-in_err-scanner-in-Some.result e _ c.from_residual-in_err-scanner-in-Some.ensures.1
    (scan_alone c.args.items.items e _ o.some (c.in_err-scanner-in-Some.ensures.list c.args.items.items (c.tells_its_list.ensures.written c.args.items.items o.table).0))

pub returns-in_ok-scanner-in-Some-clause-list : goal.returns-in_ok-scanner-in-Some-clause-list
returns-in_ok-scanner-in-Some-clause-list g c =
    let o = rw c.in-Some.is at c.in_ok-write_and_open.ensures.table in
    let es = c.args.items.items in
    reads es c.args.global_seqno c.in-Some.table.global_seqno c.args.key.now c.args.seqno c.in_ok-found-in-Some.found c.in_ok-scanner-in-Some.scanner o.number_is
    (c.in_ok-found-in-Some.ensures.list es (c.tells_its_list.ensures.written es o.table).0)
    (c.in_ok-scanner-in-Some.ensures.list es (c.tells_its_list.ensures.written es o.table).0)

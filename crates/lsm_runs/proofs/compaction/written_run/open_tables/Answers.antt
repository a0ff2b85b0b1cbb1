use Rattle.std.proofs.Common.{◌≡◌, ◌∙◌, sym, []}
use Rattle.sst_blocks.specs.table.Chunks.{joined}
use Rattle.std.proofs.lemmas.List.{nil_from_length}
use Rattle.lsm_writers.proofs.Refused.{memory_alone}
use Rattle.sst_entries.proofs.Refusals.{faults_refusal}
use Rattle.lsm_runs.specs.compaction.Written.{number_fault}
use Rattle.lsm_runs.proofs.RunWriting.{next_fits, next_large, numbers_fit, opened_all, opened_next}
use Rattle.lsm_runs.proofs.compaction.written_run.open_tables.Goals as goal

pub loop-table-init : goal.loop-table-init
loop-table-init g c label lists f = rw (c.new-opened.ensures.items, c.into_iter-table-iterator.ensures.into_iter_gives.0) f

pub loop-table-preserved : goal.loop-table-preserved
loop-table-preserved g c label lists f =
    let seqno = c.args.global_seqno in
    let rest = c.next.new.self.rest.items in
    let before = rw c.in-Some.ensures.steps.0 at (c.loop-table.invariant label lists f) in
    rw c.in_ok-push.ensures.items (opened_next seqno c.in-Some.table rest label lists c.loop-table.opened.items c.in_ok-open_table.field-0 before (λ l es is. (c.in_ok-open_table.ensures.opened l es is, c.in_ok-open_table.ensures.refused l es is)))

pub returns-in_err-open_table-clause-taken : goal.returns-in_err-open_table-clause-taken
returns-in_err-open_table-clause-taken g c label lists f small =
    let seqno = c.args.global_seqno in
    let rest = c.next.new.self.rest.items in
    let before = rw c.in-Some.ensures.steps.0 at (c.loop-table.invariant label lists f) in
    let fits = next_fits seqno c.in-Some.table rest label lists c.loop-table.opened.items before small in
    let returned = number_fault fits.1 seqno in
    memory_alone c.from_residual-in_err-open_table.result returned fits.3 (faults_refusal c.from_residual-in_err-open_table.result c.in_err-open_table.field-0.0 returned c.from_residual-in_err-open_table.ensures.1 (c.in_err-open_table.ensures.refused fits.0 fits.1 fits.2))

pub returns-clause-opened : goal.returns-clause-opened
returns-clause-opened g c label lists f =
    let rest = c.loop-table.table-iterator.rest in
    let none : rest.items ≡ [] = nil_from_length rest.items (sym rest.ok.0 ∙ c.in-None.ensures.steps.0) in
    opened_all c.args.global_seqno rest.items none label lists c.loop-table.opened.items (c.loop-table.invariant label lists f)

pub returns-in_err-open_table-clause-refused : goal.returns-in_err-open_table-clause-refused
returns-in_err-open_table-clause-refused g c label lists f =
    let seqno = c.args.global_seqno in
    let rest = c.next.new.self.rest.items in
    let e = c.in_err-open_table.field-0.0 in
    let before = rw c.in-Some.ensures.steps.0 at (c.loop-table.invariant label lists f) in
    faults_refusal c.from_residual-in_err-open_table.result e (number_fault (joined lists) seqno) c.from_residual-in_err-open_table.ensures.1
    (λ memory. next_large seqno c.in-Some.table rest e label lists c.loop-table.opened.items before (λ l es is. c.in_err-open_table.ensures.refused l es is memory))

pub returns-clause-refused : goal.returns-clause-refused
returns-clause-refused g c label lists f =
    let rest = c.loop-table.table-iterator.rest in
    let none : rest.items ≡ [] = nil_from_length rest.items (sym rest.ok.0 ∙ c.in-None.ensures.steps.0) in
    numbers_fit c.args.global_seqno c.ranges.global_seqno.fits rest.items none label lists c.loop-table.opened.items (c.loop-table.invariant label lists f)

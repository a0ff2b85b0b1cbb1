use Rattle.std.proofs.Common.{ap, subst, sym}
use Rattle.std.specs.Prelude.{Option}
use Rattle.std.specs.Option.{option_or}
use Rattle.sst_entries.specs.declared.error.Error.{Error}
use Rattle.sst_entries.specs.Error.{Faults}
use Rattle.sst_entries.proofs.Refusals.{faults_refusal}
use Rattle.lsm_writers.specs.Tables.{ids_fault, new_tables}
use Rattle.lsm_writers.proofs.Refused.{memory_alone}
use Rattle.lsm_runs.specs.compaction.Chain.{tables_fault, writes_fault}
use Rattle.lsm_runs.specs.compaction.Compacted.{RunsOn}
use Rattle.lsm_runs.proofs.CompactedBack.{all_as_written, fits_by, new_fault, new_runs_on}
use Rattle.lsm_runs.proofs.compaction.written_run.write_tables.Goals as goal

pub returns-in_err-writer-clause-refused : goal.returns-in_err-writer-clause-refused
returns-in_err-writer-clause-refused g c =
    let a = c.args in
    faults_refusal c.from_residual.result c.in_err-writer.field-0.0 (tables_fault a.ids a.target_size a.created_at a.items.items) c.from_residual.ensures.1
    (λ memory. ap (λ (x : Option Error). option_or x (writes_fault (new_tables a.ids a.target_size 0 a.created_at) a.items.items)) (c.in_err-writer.ensures.refused memory))

pub returns-in_err-writer-clause-taken : goal.returns-in_err-writer-clause-taken
returns-in_err-writer-clause-taken g c fits =
    let returned = ids_fault c.args.ids in
    memory_alone c.from_residual.result returned (ap ids_fault fits.first_is) (faults_refusal c.from_residual.result c.in_err-writer.field-0.0 returned c.from_residual.ensures.1 c.in_err-writer.ensures.refused)

pub write_by-requires-clause-next : goal.write_by-requires-clause-next
write_by-requires-clause-next g c =
    let a = c.args in
    let w = c.in_ok-writer in
    subst RunsOn (sym w.ensures.ok) (new_runs_on a.ids a.target_size a.created_at w.ensures.refused)

pub returns-clause-written : goal.returns-clause-written
returns-clause-written g c =
    let a = c.args in
    let w = c.in_ok-writer in
    all_as_written a.ids a.target_size a.created_at a.items.items w.writer (λ x. x.0.items) (λ x. x.1) c.write_by.result w.ensures.ok w.ensures.refused c.write_by.ensures.written

pub returns-clause-refused : goal.returns-clause-refused
returns-clause-refused g c =
    let a = c.args in
    let w = c.in_ok-writer in
    subst (Faults c.write_by.result) (sym (new_fault a.ids a.target_size a.created_at a.items.items w.writer w.ensures.ok w.ensures.refused)) c.write_by.ensures.refused

pub returns-clause-taken : goal.returns-clause-taken
returns-clause-taken g c fits =
    let a = c.args in
    let w = c.in_ok-writer in
    c.write_by.ensures.taken (fits_by a.ids a.target_size a.created_at a.items.items w.writer w.ensures.ok fits)

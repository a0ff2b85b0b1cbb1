use Rattle.std.proofs.Common.{◌∙◌, ap, subst, List}
use Rattle.std.specs.Prelude.{Option, map}
use Rattle.std.specs.Arc.{arc_value}
use Rattle.sst_entries.specs.Entry.{Entry}
use Rattle.lsm_writers.specs.Writing.{IsWritable}
use Rattle.lsm_runs.proofs.OneList.{one_way}
use Rattle.std.specs.Option.{option_or}
use Rattle.sst_entries.specs.declared.error.Error.{Error}
use Rattle.sst_entries.proofs.Refusals.{faults_refusal, faults_memory}
use Rattle.lsm_writers.specs.Tables.{ids_fault, new_tables}
use Rattle.lsm_writers.proofs.Refused.{memory_alone}
use Rattle.lsm_runs.specs.compaction.Chain.{run_label, tables_fault, writes_fault}
use Rattle.lsm_runs.specs.compaction.Compacted.{kept_in}
use Rattle.lsm_runs.specs.SeveralRuns.{union_in}
use Rattle.lsm_runs.proofs.CompactedBack.{as_written, compactable_again, fits_by, new_fault}
use Rattle.lsm_runs.proofs.CompactedBack.{small_numbers}
use Rattle.lsm_runs.proofs.Keeping.{stays_writable}
use Rattle.lsm_runs.proofs.RunWriting.{wants}
use Rattle.lsm_runs.proofs.compaction.compacted_run.compact_to_run.Goals as goal

pub returns-in_err-writer-clause-refused : goal.returns-in_err-writer-clause-refused
returns-in_err-writer-clause-refused g c lists held =
    let a = c.args in
    let left = kept_in a.rules lists in
    let r = c.from_residual-in_err-writer in
    faults_refusal r.result c.in_err-writer.field-0.0 (tables_fault a.ids a.target_size a.created_at left) r.ensures.1
    (λ memory. ap (λ (x : Option Error). option_or x (writes_fault (new_tables a.ids a.target_size 0 a.created_at) left)) (c.in_err-writer.ensures.refused memory))

pub returns-in_err-writer-clause-taken : goal.returns-in_err-writer-clause-taken
returns-in_err-writer-clause-taken g c lists held fits =
    let returned = ids_fault c.args.ids in
    let r = c.from_residual-in_err-writer in
    memory_alone r.result returned (ap ids_fault fits.first_is) (faults_refusal r.result c.in_err-writer.field-0.0 returned r.ensures.1 c.in_err-writer.ensures.refused)

pub returns-in_err-tables-clause-refused : goal.returns-in_err-tables-clause-refused
returns-in_err-tables-clause-refused g c lists held =
    let a = c.args in
    let left = kept_in a.rules lists in
    let r = c.from_residual-in_err-tables in
    faults_refusal r.result c.in_err-tables.field-0.0 (tables_fault a.ids a.target_size a.created_at left) r.ensures.1
    (λ memory. new_fault a.ids a.target_size a.created_at left c.in_ok-writer.writer c.in_ok-writer.ensures.ok c.in_ok-writer.ensures.refused ∙ c.in_err-tables.ensures.refused lists held memory)

pub returns-in_err-tables-clause-taken : goal.returns-in_err-tables-clause-taken
returns-in_err-tables-clause-taken g c lists held fits =
    let a = c.args in
    let left = kept_in a.rules lists in
    let r = c.from_residual-in_err-tables in
    wants r.result c.in_err-tables.field-0.0 r.ensures.1
    (c.in_err-tables.ensures.taken lists held (fits_by a.ids a.target_size a.created_at left c.in_ok-writer.writer c.in_ok-writer.ensures.ok fits))

pub returns-in_err-run_of_tables-clause-refused : goal.returns-in_err-run_of_tables-clause-refused
returns-in_err-run_of_tables-clause-refused g c lists held =
    let a = c.args in
    let rules = a.rules in
    let left = kept_in rules c.requires.lists in
    let w = as_written a.ids a.target_size a.created_at left c.in_ok-writer.writer c.in_ok-tables.tables.items c.in_ok-tables.left c.in_ok-writer.ensures.ok c.in_ok-writer.ensures.refused (c.in_ok-tables.ensures.tables c.requires.lists c.requires.hold) in
    let small = small_numbers left (stays_writable rules (union_in c.requires.lists) c.requires.writable).numbered in
    let r = c.from_residual-in_err-run_of_tables in
    let e = c.in_err-run_of_tables.field-0.0 in
    let memory = c.in_err-run_of_tables.ensures.taken a.ids a.target_size a.created_at left c.in_ok-tables.left w small in
    faults_memory r.result e _ r.ensures.1 memory

pub returns-in_err-run_of_tables-clause-taken : goal.returns-in_err-run_of_tables-clause-taken
returns-in_err-run_of_tables-clause-taken g c lists held fits =
    let a = c.args in
    let rules = a.rules in
    let left = kept_in rules c.requires.lists in
    let w = as_written a.ids a.target_size a.created_at left c.in_ok-writer.writer c.in_ok-tables.tables.items c.in_ok-tables.left c.in_ok-writer.ensures.ok c.in_ok-writer.ensures.refused (c.in_ok-tables.ensures.tables c.requires.lists c.requires.hold) in
    let small = small_numbers left (stays_writable rules (union_in c.requires.lists) c.requires.writable).numbered in
    let r = c.from_residual-in_err-run_of_tables in
    wants r.result c.in_err-run_of_tables.field-0.0 r.ensures.1
    (c.in_err-run_of_tables.ensures.taken a.ids a.target_size a.created_at left c.in_ok-tables.left w small)

pub returns-clause-run : goal.returns-clause-run
returns-clause-run g c lists held =
    let a = c.args in
    let left = kept_in a.rules lists in
    let w = as_written a.ids a.target_size a.created_at left c.in_ok-writer.writer c.in_ok-tables.tables.items c.in_ok-tables.left c.in_ok-writer.ensures.ok c.in_ok-writer.ensures.refused (c.in_ok-tables.ensures.tables lists held) in
    c.in_ok-run_of_tables.ensures.run a.ids a.target_size a.created_at left c.in_ok-tables.left w

pub returns-clause-cut : goal.returns-clause-cut
returns-clause-cut g c lists held =
    let a = c.args in
    let left = kept_in a.rules lists in
    let w = as_written a.ids a.target_size a.created_at left c.in_ok-writer.writer c.in_ok-tables.tables.items c.in_ok-tables.left c.in_ok-writer.ensures.ok c.in_ok-writer.ensures.refused (c.in_ok-tables.ensures.tables lists held) in
    c.in_ok-run_of_tables.ensures.cut a.ids a.target_size a.created_at left c.in_ok-tables.left w

pub returns-clause-ids : goal.returns-clause-ids
returns-clause-ids g c =
    let a = c.args in
    let left = kept_in a.rules c.requires.lists in
    let w = as_written a.ids a.target_size a.created_at left c.in_ok-writer.writer c.in_ok-tables.tables.items c.in_ok-tables.left c.in_ok-writer.ensures.ok c.in_ok-writer.ensures.refused (c.in_ok-tables.ensures.tables c.requires.lists c.requires.hold) in
    c.in_ok-run_of_tables.ensures.ids a.ids a.target_size a.created_at left c.in_ok-tables.left w

pub returns-clause-able : goal.returns-clause-able
returns-clause-able g c =
    let a = c.args in
    let able = c.requires in
    let rules = a.rules in
    compactable_again (run_label a.ids a.target_size a.created_at) a.target_size (kept_in rules able.lists) c.in_ok-run_of_tables.field-0 (stays_writable rules (union_in able.lists) able.writable)
    (returns-clause-run g c able.lists able.hold) (returns-clause-cut g c able.lists able.hold)

pub returns-clause-refused : goal.returns-clause-refused
returns-clause-refused g c lists held =
    let a = c.args in
    let left = kept_in a.rules lists in
    new_fault a.ids a.target_size a.created_at left c.in_ok-writer.writer c.in_ok-writer.ensures.ok c.in_ok-writer.ensures.refused ∙ c.in_ok-tables.ensures.refused lists held

pub returns-clause-writable : goal.returns-clause-writable
returns-clause-writable g c lists held =
    let a = c.args in
    let able = c.requires in
    let rules = a.rules in
    subst (λ (ls : List (List (List Entry))). IsWritable (kept_in rules ls)) (one_way (map arc_value a.runs.now) able.lists lists able.hold held) (stays_writable rules (union_in able.lists) able.writable)

use Rattle.std.proofs.Common.{◌∙◌}
use Rattle.sst_entries.proofs.Refusals.{faults_refusal}
use Rattle.lsm_runs.specs.compaction.Chain.{writes_fault}
use Rattle.lsm_runs.proofs.TookList.{list_ends, list_since}
use Rattle.lsm_runs.proofs.WrittenBy.{all_finished}
use Rattle.lsm_runs.proofs.compaction.compact.finished.Goals as goal

pub returns-in_err-tables-clause-refused : goal.returns-in_err-tables-clause-refused
returns-in_err-tables-clause-refused g c w es list =
    faults_refusal c.from_residual.result c.in_err-tables.field-0.0 (writes_fault w es) c.from_residual.ensures.1 (λ fine. list_ends w es c.args.writer list ∙ c.in_err-tables.ensures.refused fine)

pub returns-clause-written : goal.returns-clause-written
returns-clause-written g c w es fresh next list =
    let m = c.args.writer in
    let f = c.in_ok-tables.ensures in
    all_finished w m fresh next (list_since w es m fresh list) es c.in_ok-tables.tables.items c.table_ids-left.result list.listed c.table_ids-left.ensures f.strict f.tables f.order f.finished

pub returns-clause-refused : goal.returns-clause-refused
returns-clause-refused g c w es list = list_ends w es c.args.writer list ∙ c.in_ok-tables.ensures.refused

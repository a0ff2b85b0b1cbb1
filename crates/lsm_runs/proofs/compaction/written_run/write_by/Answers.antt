use Rattle.std.specs.Prelude.{Err}
use Rattle.sst_entries.specs.declared.error.Error.{Error}
use Rattle.lsm_writers.proofs.Refused.{memory_alone}
use Rattle.lsm_runs.proofs.TookList.{on_ok}
use Rattle.lsm_runs.proofs.WrittenBy.{fits_none}
use Rattle.lsm_runs.proofs.compaction.written_run.write_by.Goals as goal

pub returns-clause-written : goal.returns-clause-written
returns-clause-written g c = c.finished.ensures.written c.args.writer c.args.items.items c.requires.fresh c.requires.next (on_ok c.write_items-took.result _ c.in_default.is c.write_items-took.ensures.took)

pub returns-clause-refused : goal.returns-clause-refused
returns-clause-refused g c = c.finished.ensures.refused c.args.writer c.args.items.items (on_ok c.write_items-took.result _ c.in_default.is c.write_items-took.ensures.took)

pub returns-clause-taken : goal.returns-clause-taken
returns-clause-taken g c fits =
    let a = c.args in
    memory_alone c.finished.result _ (fits_none a.writer a.items.items c.tables_law.ensures.takes c.requires.fresh c.requires.next c.requires.list fits) (returns-clause-refused g c)

pub returns-in-Err-clause-taken : goal.returns-in-Err-clause-taken
returns-in-Err-clause-taken g c fits =
    let a = c.args in
    memory_alone {X = Error} (Err c.in-Err.error) _ (fits_none a.writer a.items.items c.tables_law.ensures.takes c.requires.fresh c.requires.next c.requires.list fits) c.in-Err.ensures.refused

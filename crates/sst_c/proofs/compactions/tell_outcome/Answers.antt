use Rattle.std.proofs.Common.{Result, Ok, subst, sym}
use Rattle.std.specs.Global.{Global}
use Rattle.sst_entries.specs.declared.error.Error.{Error}
use Rattle.lsm_runs.specs.declared.compaction.any_runs.CompactionOutcome.{CompactionOutcome}
use Rattle.lsm_runs.specs.declared.compaction.any_runs.CompactionOutcome.TheVariants.{Tables}
use Rattle.sst_c.specs.Compact.{ReportsOutcome}
use Rattle.sst_c.proofs.Compacting.{outcome_tables}
use Rattle.sst_c.proofs.compactions.tell_outcome.Goals as goal

pub returns-in-Ok-Tables-clause-returned : goal.returns-in-Ok-Tables-clause-returned
returns-in-Ok-Tables-clause-returned c =
    let code = c.tell_tables.result in
    let held = c.tell_tables.new.files.boxed.value in
    let next = c.tell_tables.new.next_id in
    let tables = c.tell_tables.ensures in
    subst (λ (r : Result (CompactionOutcome Global) Error). ReportsOutcome code held next r) (sym c.in-Ok-Tables.is)
    (subst (λ (o : CompactionOutcome Global). ReportsOutcome code held next (Ok o)) (sym c.in-Ok-Tables.field-0-is)
    (outcome_tables (Tables c.in-Ok-Tables.tables c.in-Ok-Tables.left) tt code next held tables.memory
    tables.new tables.kept tables.next))

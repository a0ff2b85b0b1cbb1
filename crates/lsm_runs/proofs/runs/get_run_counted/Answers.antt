use Rattle.std.proofs.Common.{subst}
use Rattle.std.specs.Prelude.{None, Option}
use Rattle.sst_blocks.specs.Opened.{none_opened}
use Rattle.sst_blocks.specs.Access.{in_memory}
use Rattle.lsm_readers.specs.point.Read.{DoesRead}
use Rattle.lsm_readers.specs.point.Table.{OpenTable}
use Rattle.lsm_readers.proofs.ReadLaws.{does_known}
use Rattle.lsm_runs.specs.SeveralRuns.{table_read}
use Rattle.lsm_runs.proofs.RunReads.{few_each, found_is, none_each}
use Rattle.lsm_runs.proofs.runs.get_run_counted.Goals as goal

pub returns-in-Some-clause-read : goal.returns-in-Some-clause-read
returns-in-Some-clause-read g c order =
    let returned = c.get_counted.ensures in
    subst (λ (o : Option OpenTable). DoesRead in_memory c.get_counted.result.0 (table_read c.args.key.now c.args.seqno o) none_opened c.get_counted.result.1) (c.in-Some.ensures.found order)
    (record { returned = returned.returned; early = λ _. returned.early; opens = returned.opened; calm = returned.calm })

pub returns-in-Some-clause-few : goal.returns-in-Some-clause-few
returns-in-Some-clause-few g c = few_each _ c.get_counted.result.1 c.get_counted.ensures.few

pub returns-in-None-clause-read : goal.returns-in-None-clause-read
returns-in-None-clause-read g c order = rw c.none.ensures
    (subst (λ (o : Option OpenTable). DoesRead in_memory (found_is None) (table_read c.args.key.now c.args.seqno o) none_opened none_opened) (c.in-None.ensures.found order) (does_known in_memory None none_opened))

pub returns-in-None-clause-few : goal.returns-in-None-clause-few
returns-in-None-clause-few g c = rw c.none.ensures (none_each 1)

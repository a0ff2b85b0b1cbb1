use Rattle.sst_entries.specs.Stream.{back_of}
use Rattle.lsm_runs.specs.RunRange.{RunGives, back_tables}
use Rattle.lsm_runs.proofs.LentRunLaws.{lending_yields}
use Rattle.lsm_runs.proofs.LentTogether.{lends_few, lends_list}
use Rattle.lsm_runs.proofs.RunLaws.{run_yields}
use Rattle.lsm_runs.proofs.RunLists.{culled_yields, new_few}
use Rattle.lsm_runs.proofs.run_reader.RunReader.culled.Goals as goal

pub returns-clause-yields : goal.returns-clause-yields
returns-clause-yields g c = run_yields _

pub returns-clause-few : goal.returns-clause-few
returns-clause-few g c = new_few _ _ c.of_span.result (rw (c.ends_in-ends.ensures, c.as_slice.ensures, c.deref.ensures) at c.of_span.ensures)

pub returns-clause-list : goal.returns-clause-list
returns-clause-list g c lists held =
    culled_yields c.args.range.0 c.args.range.1 _ lists held _ c.of_span.result (rw (c.ends_in-ends.ensures, c.as_slice.ensures, c.deref.ensures) at c.of_span.ensures)

pub returns-clause-lends : goal.returns-clause-lends
returns-clause-lends g c = lending_yields _

pub returns-clause-lends_list : goal.returns-clause-lends_list
returns-clause-lends_list g c lists held =
    lends_list (RunGives back_of back_tables) _ _ (returns-clause-list g c lists held)

pub returns-clause-lends_few : goal.returns-clause-lends_few
returns-clause-lends_few g c = lends_few (RunGives back_of back_tables) _ _ (returns-clause-few g c)

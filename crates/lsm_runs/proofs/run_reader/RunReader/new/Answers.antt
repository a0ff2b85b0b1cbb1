use Rattle.std.proofs.Common.{sym}
use Rattle.sst_entries.specs.Stream.{back_of}
use Rattle.lsm_runs.specs.RunRange.{RunGives, back_tables}
use Rattle.lsm_runs.proofs.LentRunLaws.{lending_yields}
use Rattle.lsm_runs.proofs.LentTogether.{lends_few, lends_list}
use Rattle.lsm_runs.proofs.RunLaws.{run_yields}
use Rattle.lsm_runs.proofs.RunLists.{few_all, few_found, new_yields}
use Rattle.lsm_runs.proofs.RunWithin.{none_yields}
use Rattle.lsm_runs.proofs.run_reader.RunReader.new.Goals as goal

pub returns-in-Some-clause-span : goal.returns-in-Some-clause-span
returns-in-Some-clause-span g c order = (c.in-Some.ends, sym (rw c.deref.ensures at (c.in-Some.ensures.found (rw c.deref.ensures order))), c.of_span.ensures)

pub returns-in-Some-clause-is : goal.returns-in-Some-clause-is
returns-in-Some-clause-is g c = (c.in-Some.ends, rw c.deref.ensures at c.in-Some.ensures.within, c.of_span.ensures)

pub returns-in-Some-clause-yields : goal.returns-in-Some-clause-yields
returns-in-Some-clause-yields g c = run_yields _

pub returns-in-Some-clause-list : goal.returns-in-Some-clause-list
returns-in-Some-clause-list g c order lists held =
    new_yields c.args.range.0 c.args.range.1 _ lists held c.in-Some.ends c.of_span.result c.of_span.ensures order (sym (rw c.deref.ensures at (c.in-Some.ensures.found (rw c.deref.ensures order))))

pub returns-in-None-clause-span : goal.returns-in-None-clause-span
returns-in-None-clause-span g c order = sym (rw c.deref.ensures at (c.in-None.ensures.found (rw c.deref.ensures order)))

pub returns-in-None-clause-list : goal.returns-in-None-clause-list
returns-in-None-clause-list g c order lists held = none_yields c.args.range.0 c.args.range.1 _ lists held order (sym (rw c.deref.ensures at (c.in-None.ensures.found (rw c.deref.ensures order))))

pub returns-in-Some-clause-few : goal.returns-in-Some-clause-few
returns-in-Some-clause-few g c order ends same =
    few_found c.args.range.0 c.args.range.1 _ c.in-Some.ends c.of_span.result c.of_span.ensures _ ends (sym (rw c.deref.ensures at (c.in-Some.ensures.found (rw c.deref.ensures order)))) same

pub returns-in-Some-clause-most : goal.returns-in-Some-clause-most
returns-in-Some-clause-most g c = few_all c.args.range.0 c.args.range.1 _ c.in-Some.ends c.of_span.result c.of_span.ensures (rw c.deref.ensures at c.in-Some.ensures.within)

pub returns-in-Some-clause-lends : goal.returns-in-Some-clause-lends
returns-in-Some-clause-lends g c = lending_yields _

pub returns-in-Some-clause-lends_list : goal.returns-in-Some-clause-lends_list
returns-in-Some-clause-lends_list g c order lists held =
    lends_list (RunGives back_of back_tables) _ _ (returns-in-Some-clause-list g c order lists held)

pub returns-in-None-clause-lends_list : goal.returns-in-None-clause-lends_list
returns-in-None-clause-lends_list g c order lists held = returns-in-None-clause-list g c order lists held

pub returns-in-Some-clause-lends_few : goal.returns-in-Some-clause-lends_few
returns-in-Some-clause-lends_few g c order ends same =
    lends_few (RunGives back_of back_tables) _ _ (returns-in-Some-clause-few g c order ends same)

pub returns-in-Some-clause-lends_most : goal.returns-in-Some-clause-lends_most
returns-in-Some-clause-lends_most g c = lends_few (RunGives back_of back_tables) _ _ (returns-in-Some-clause-most g c)

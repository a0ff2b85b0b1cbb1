use Rattle.std.proofs.Common.{List, subst}
use Rattle.sst_entries.specs.Entry.{Entry}
use Rattle.sst_entries.specs.Stream.{nowhere}
use Rattle.lsm_runs.specs.LentSources.{LendsFirst}
use Rattle.lsm_runs.specs.RunLists.{YieldsList}
use Rattle.lsm_runs.proofs.LentSources.{lent_within}
use Rattle.lsm_runs.proofs.lent_entries.lend_entries_within.Goals as goal

pub returns-clause-list : goal.returns-clause-list
returns-clause-list g c strict =
    subst (λ (es : List Entry). YieldsList LendsFirst nowhere es c.lend_entries.result)
    (lent_within c.args.range.now.0 c.args.range.now.1 c.args.items.now c.lower_place-from.result c.upper_place-to.result c.max.result strict (c.lower_place-from.ensures.exact strict) (c.upper_place-to.ensures.exact strict) c.max.ensures)
    c.lend_entries.ensures.list

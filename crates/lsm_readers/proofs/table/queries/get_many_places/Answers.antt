use Rattle.std.proofs.Common.{List, Option, subst}
use Rattle.std.specs.Prelude.{Result}
use Rattle.sst_entries.specs.declared.error.Error.{Error}
use Rattle.sst_entries.specs.Entry.{Entry}
use Rattle.sst_entries.specs.Error.{Gives}
use Rattle.lsm_readers.specs.point.Batch.{entries_placed}
use Rattle.lsm_readers.proofs.ManyOfList.{many_of_list}
use Rattle.lsm_readers.proofs.table.queries.get_many_places.Goals as goal

pub returns-clause-list : goal.returns-clause-list
returns-clause-list g c es is =
    subst (λ (returned : Result (List (Option Entry)) Error). Gives (λ found. entries_placed c.args.table.now.bytes found.items) c.places.result returned)
    (many_of_list c.args.table.now c.places.ensures.open es is c.args.queries.now)
    c.places.ensures.returned

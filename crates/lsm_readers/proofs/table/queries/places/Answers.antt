use Rattle.std.proofs.Common.{ap, subst, ◌∙◌}
use Rattle.sst_entries.specs.Error.{Gives}
use Rattle.lsm_readers.specs.point.Batch.{entries_placed}
use Rattle.lsm_readers.specs.point.Many.{many_results}
use Rattle.lsm_readers.specs.point.Table.{OpenTable, table_of}
use Rattle.lsm_readers.proofs.table.queries.places.Goals as goal

pub returns-clause-returned : goal.returns-clause-returned
returns-clause-returned g c =
    let same = ap (table_of c.table.inside.source) c.deref-inner.ensures ∙ c.table.view_is in
    subst (λ (t : OpenTable). Gives (λ found. entries_placed t.bytes found.items) c.many_places_in.result (many_results t c.args.queries.now)) same c.many_places_in.ensures.returned

use Rattle.example_store.proofs.Opening.{stored_opens}
use Rattle.example_store.proofs.Faults.{names_unopened}
use Rattle.example_store.proofs.store.open.open_table.Goals as goal

pub returns-in-Err-clause-taken : goal.returns-in-Err-clause-taken
returns-in-Err-clause-taken g c es stored =
    c.unopened.ensures.memory (stored_opens c.args.bytes es stored c.in-Err.error (c.in-Err.ensures.stores es stored))

pub returns-in-Err-clause-named : goal.returns-in-Err-clause-named
returns-in-Err-clause-named g c next =
    names_unopened next c.args.bytes c.args.place.0 c.args.place.1 c.in-Err.error c.unopened.result c.unopened.ensures.memory c.unopened.ensures.named c.in-Err.ensures.returned
    (λ es stored. stored_opens c.args.bytes es stored c.in-Err.error (c.in-Err.ensures.stores es stored))

use Rattle.std.proofs.Common.{◌∙◌, ap, List}
use Rattle.lsm_tables.specs.Words.{Entry, ok_results, within}
use Rattle.example_store.proofs.Shares.{yields_items}
use Rattle.example_store.proofs.memtable.Memtable.within.Goals as goal

pub returns-clause-list : goal.returns-clause-list
returns-clause-list g c =
    let low = c.args.bounds.now.0 in
    let high = c.args.bounds.now.1 in
    yields_items c.into_iter.result (within low high c.args.self.now)
    (c.into_iter.ensures.rest ∙ c.in_ok-found.ensures.items
    ∙ ap (λ (es : List Entry). ok_results (within low high es)) (c.deref.ensures.value ∙ c.self.view_is))

use Rattle.std.proofs.Common.{[], ◌∷◌}
use Rattle.example_store.proofs.Ranges.{one_of, one_source}
use Rattle.example_store.proofs.store.range.range_beside.Goals as goal

pub returns-clause-list : goal.returns-clause-list
returns-clause-list g c lists hold es strict yields =
    c.range_sources_at.ensures.list lists hold (es ∷ [])
    (one_source _ _ c.args.bounds.0 c.args.bounds.1 c.args.source c.in_ok-alloc.sources.items es c.in_ok-alloc.ensures.one strict yields)

pub returns-clause-next : goal.returns-clause-next
returns-clause-next g c can finite =
    let sources = c.in_ok-alloc.sources.items in
    let one = c.in_ok-alloc.ensures.one in
    c.range_sources_at.ensures.next (one_of _ c.args.source sources one can) (one_of _ c.args.source sources one finite)

pub returns-clause-next_back : goal.returns-clause-next_back
returns-clause-next_back g c can finite =
    let sources = c.in_ok-alloc.sources.items in
    let one = c.in_ok-alloc.ensures.one in
    c.range_sources_at.ensures.next_back (one_of _ c.args.source sources one can) (one_of _ c.args.source sources one finite)

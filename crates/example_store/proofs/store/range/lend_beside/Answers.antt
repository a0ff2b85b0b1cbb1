use Rattle.std.proofs.Common.{[], ◌∷◌}
use Rattle.std.specs.Prelude.{Ok}
use Rattle.lsm_tables.specs.Words.{CanLend}
use Rattle.example_store.proofs.Ranges.{one_of, one_source}
use Rattle.example_store.proofs.store.range.lend_beside.Goals as goal

pub returns-clause-list : goal.returns-clause-list
returns-clause-list g c lists hold es strict yields =
    c.lend_sources_at.ensures.list lists hold (es ∷ [])
    (one_source _ _ c.args.bounds.0 c.args.bounds.1 (Ok c.args.source) c.in_ok-alloc.sources.items es c.in_ok-alloc.ensures.one strict yields)

pub returns-clause-can : goal.returns-clause-can
returns-clause-can g c can =
    c.lend_sources_at.ensures.can (one_of (CanLend g.L.Lending.advances g.L.Lending.can_advance) (Ok c.args.source) c.in_ok-alloc.sources.items c.in_ok-alloc.ensures.one can)

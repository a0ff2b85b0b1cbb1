use Rattle.std.proofs.Common.{refl}
use Rattle.lsm_tables.specs.Words.{union_in}
use Rattle.lsm_tables.proofs.TableLaws.{merged_together, nowhere}
use Rattle.example_store.proofs.store.order.come_in_order.Goals as goal

pub comes_in_order-requires : goal.comes_in_order-requires
comes_in_order-requires g c = record {
  first = refl;
  can = c.in_ok-merger.ensures.can c.requires;
}

pub returns-clause-exact : goal.returns-clause-exact
returns-clause-exact g c lists together =
    c.comes_in_order.ensures.exact (union_in lists)
    (merged_together g.L.Lending.advances nowhere _ nowhere lists c.args.sources.items c.in_ok-merger.merger together c.in_ok-merger.ensures.yields)

pub returns-clause-memory : goal.returns-clause-memory
returns-clause-memory g c lists together =
    c.comes_in_order.ensures.memory (union_in lists)
    (merged_together g.L.Lending.advances nowhere _ nowhere lists c.args.sources.items c.in_ok-merger.merger together c.in_ok-merger.ensures.yields)

use Rattle.sst_entries.specs.Stream.{nowhere}
use Rattle.sst_entries.proofs.StreamLemmas.{can_front, can_now}
use Rattle.test_support.proofs.lent.agreeing.go_on.Goals as goal

pub advance-requires : goal.advance-requires
advance-requires g c =
    can_now g.L.Lending.advances nowhere g.L.Lending.can_advance g.L.Lending.can_advance c.args.source.now c.requires

pub returns : goal.returns
returns g c = record {
  can = can_front g.L.Lending.advances nowhere g.L.Lending.can_advance g.L.Lending.can_advance c.args.source.now _ c.advance.new.self c.requires c.advance.ensures.goes;
}

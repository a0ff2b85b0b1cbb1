use Rattle.sst_entries.specs.Lending.{came}
use Rattle.sst_entries.specs.Stream.{nowhere}
use Rattle.sst_entries.proofs.StreamLemmas.{can_front, can_now}
use Rattle.bench_library.proofs.lending.drain_front.Goals as goal

pub advance-requires : goal.advance-requires
advance-requires g c = can_now g.L.Lending.advances nowhere g.L.Lending.can_advance
    g.L.Lending.can_advance c.loop.source c.loop.invariant

pub loop-preserved : goal.loop-preserved
loop-preserved g c = can_front g.L.Lending.advances nowhere g.L.Lending.can_advance
    g.L.Lending.can_advance c.loop.source
    (came c.advance.result (g.L.Lending.lent c.advance.new.self)) c.advance.new.self
    c.loop.invariant c.advance.ensures.goes

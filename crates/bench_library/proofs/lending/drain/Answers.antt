use Rattle.sst_entries.specs.Lending.{came}
use Rattle.sst_entries.specs.Stream.{nowhere}
use Rattle.sst_entries.proofs.StreamLemmas.{can_front, can_now}
use Rattle.bench_library.proofs.lending.drain.Goals as goal

pub advance-requires : goal.advance-requires
advance-requires g c = can_now g.L.Lending.advances nowhere g.L.Lending.can_advance
    g.L.Lending.can_advance c.loop-source.source c.loop-source.invariant

pub loop-source-preserved-in-Some : goal.loop-source-preserved-in-Some
loop-source-preserved-in-Some g c = can_front g.L.Lending.advances nowhere g.L.Lending.can_advance
    g.L.Lending.can_advance c.loop-source.source
    (came c.advance.result (g.L.Lending.lent c.advance.new.self)) c.advance.new.self
    c.loop-source.invariant c.advance.ensures.goes

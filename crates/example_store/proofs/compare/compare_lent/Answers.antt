use Rattle.lsm_tables.proofs.TableLaws.{can_front, can_now, nowhere}
use Rattle.example_store.proofs.compare.compare_lent.Goals as goal

pub advance-requires : goal.advance-requires
advance-requires g c = can_now g.L.Lending.advances nowhere g.L.Lending.can_advance g.L.Lending.can_advance c.loop-items.items c.loop-items.invariant

pub loop-items-preserved-in-Some : goal.loop-items-preserved-in-Some
loop-items-preserved-in-Some g c = can_front g.L.Lending.advances nowhere g.L.Lending.can_advance g.L.Lending.can_advance c.loop-items.items _ c.advance.new.self c.loop-items.invariant c.advance.ensures.goes

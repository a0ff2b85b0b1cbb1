use Rattle.lsm_writers.proofs.StreamCalls.{no_error, yields_end, yields_stop}
use Rattle.lsm_writers.proofs.table_stream.TableStreamIterator.next.Goals as goal

pub returns-in-Ok-None-clause-steps : goal.returns-in-Ok-None-clause-steps
returns-in-Ok-None-clause-steps g c =
    yields_end g.L.Lending.advances c.args.self.now _ c.in-Some.writer c.write_until-made.new.writer c.in-Some.is c.end.ensures.over
    (no_error g.L.Lending.advances g.L.Lending.can_advance c.args.self.now c.in-Some.writer c.in-Some.is c.requires)
    c.table_ids-self.ensures c.end.result (rw c.in-Ok-None.field-0-is at c.in-Ok-None.ensures.steps) c.end.ensures.ends

pub returns-in-Err-clause-steps : goal.returns-in-Err-clause-steps
returns-in-Err-clause-steps g c =
    yields_stop g.L.Lending.advances c.args.self.now _ c.in-Some.writer c.write_until-made.new.writer c.in-Some.is c.stop.ensures.over c.in-Err.error
    (no_error g.L.Lending.advances g.L.Lending.can_advance c.args.self.now c.in-Some.writer c.in-Some.is c.requires)
    c.table_ids-self.ensures c.stop.result c.in-Err.ensures.steps c.stop.ensures.stops c.stop.ensures.left

pub end-requires : goal.end-requires
end-requires g c = c.in-Ok-None.ensures.taken

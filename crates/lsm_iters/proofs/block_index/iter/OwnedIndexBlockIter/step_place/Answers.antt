use Rattle.lsm_iters.proofs.Taken.{place_found, place_none}
use Rattle.lsm_iters.proofs.block_index.iter.OwnedIndexBlockIter.step_place.Goals as goal

pub returns-in-Some-clause-step : goal.returns-in-Some-clause-step
returns-in-Some-clause-step g c =
    place_found c.args.at c.args.self.now c.take_place.new.self c.in-Some.place (rw c.in-Some.is at c.take_place.ensures)

pub returns-in-None-clause-step : goal.returns-in-None-clause-step
returns-in-None-clause-step g c = place_none c.args.at c.args.self.now c.take_place.new.self (rw c.in-None.is at c.take_place.ensures)

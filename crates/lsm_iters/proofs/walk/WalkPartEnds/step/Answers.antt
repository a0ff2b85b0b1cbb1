use Rattle.std.proofs.Common.{refl}
use Rattle.lsm_iters.proofs.Reaching.{step_of}
use Rattle.lsm_iters.proofs.walk.WalkPartEnds.step.Goals as goal

pub returns-in-Some-Ok-clause-walk : goal.returns-in-Some-Ok-clause-walk
returns-in-Some-Ok-clause-walk g c =
    record { taken = c.take.new.self; takes = rw c.in-Some-Ok.field-0-is at c.in-Some-Ok.ensures; goes = refl }

pub returns-in-Some-Err-clause-walk : goal.returns-in-Some-Err-clause-walk
returns-in-Some-Err-clause-walk g c =
    record { taken = c.take.new.self; takes = rw c.in-Some-Err.field-0-is at c.in-Some-Err.ensures; goes = c.end.ensures }

pub returns-in-None-clause-walk : goal.returns-in-None-clause-walk
returns-in-None-clause-walk g c = record { taken = c.take.new.self; takes = c.in-None.ensures; goes = refl }

pub returns-in-Some-Ok-clause-gives : goal.returns-in-Some-Ok-clause-gives
returns-in-Some-Ok-clause-gives g c = step_of _ _ _ _ c.args.at _ _ _ (returns-in-Some-Ok-clause-walk g c)

pub returns-in-Some-Err-clause-gives : goal.returns-in-Some-Err-clause-gives
returns-in-Some-Err-clause-gives g c = step_of _ _ _ _ c.args.at _ _ _ (returns-in-Some-Err-clause-walk g c)

pub returns-in-None-clause-gives : goal.returns-in-None-clause-gives
returns-in-None-clause-gives g c = step_of _ _ _ _ c.args.at _ _ _ (returns-in-None-clause-walk g c)

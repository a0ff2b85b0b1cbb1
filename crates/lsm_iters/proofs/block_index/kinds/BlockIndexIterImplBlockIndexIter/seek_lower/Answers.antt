use Rattle.std.proofs.lemmas.Result.{on_err_weaker}
use Rattle.lsm_iters.proofs.KindLaws.{kind_yields, kind_stays}
use Rattle.lsm_iters.proofs.block_index.kinds.BlockIndexIterImplBlockIndexIter.seek_lower.Goals as goal

pub returns-in-Full-clause-between : goal.returns-in-Full-clause-between
returns-in-Full-clause-between g c upper was = c.seek_lower.ensures.between upper (rw c.in-Full.is at was)

pub returns-in-Full-clause-over : goal.returns-in-Full-clause-over
returns-in-Full-clause-over g c was = c.seek_lower.ensures.over (rw c.in-Full.is at was)

pub returns-in-Full-clause-yields : goal.returns-in-Full-clause-yields
returns-in-Full-clause-yields g c = kind_yields _

pub returns-in-Full-clause-stays : goal.returns-in-Full-clause-stays
returns-in-Full-clause-stays g c = on_err_weaker c.seek_lower.result (kind_stays _) c.seek_lower.ensures.ended

pub returns-in-Volatile-clause-between : goal.returns-in-Volatile-clause-between
returns-in-Volatile-clause-between g c upper was = c.seek_lower-in-Volatile.ensures.between upper (rw c.in-Volatile.is at was)

pub returns-in-Volatile-clause-over : goal.returns-in-Volatile-clause-over
returns-in-Volatile-clause-over g c was = c.seek_lower-in-Volatile.ensures.over (rw c.in-Volatile.is at was)

pub returns-in-Volatile-clause-yields : goal.returns-in-Volatile-clause-yields
returns-in-Volatile-clause-yields g c = kind_yields _

pub returns-in-Volatile-clause-stays : goal.returns-in-Volatile-clause-stays
returns-in-Volatile-clause-stays g c = on_err_weaker c.seek_lower-in-Volatile.result (kind_stays _) c.seek_lower-in-Volatile.ensures.ended

pub returns-in-TwoLevel-clause-between : goal.returns-in-TwoLevel-clause-between
returns-in-TwoLevel-clause-between g c upper was = c.seek_lower-in-TwoLevel.ensures.between upper (rw c.in-TwoLevel.is at was)

pub returns-in-TwoLevel-clause-over : goal.returns-in-TwoLevel-clause-over
returns-in-TwoLevel-clause-over g c was = c.seek_lower-in-TwoLevel.ensures.over (rw c.in-TwoLevel.is at was)

pub returns-in-TwoLevel-clause-yields : goal.returns-in-TwoLevel-clause-yields
returns-in-TwoLevel-clause-yields g c = kind_yields _

pub returns-in-TwoLevel-clause-stays : goal.returns-in-TwoLevel-clause-stays
returns-in-TwoLevel-clause-stays g c = on_err_weaker c.seek_lower-in-TwoLevel.result (kind_stays _) c.seek_lower-in-TwoLevel.ensures.ended

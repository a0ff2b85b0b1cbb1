use Rattle.lsm_iters.specs.Blocks.{lent_at}
use Rattle.lsm_iters.proofs.iter.Iter.go_on.Goals as goal

pub returns-in-Ok-clause-goes : goal.returns-in-Ok-clause-goes
returns-in-Ok-clause-goes g c =
    rw (← c.self.view_is) (c.in-Ok.ensures.ok (lent_at c.self.inside.end c.self.inside.walk))

pub returns-in-Err-clause-goes : goal.returns-in-Err-clause-goes
returns-in-Err-clause-goes g c =
    rw (c.end.ensures.over c.args.at, ← c.self.view_is) (c.in-Err.ensures.err (lent_at c.self.inside.end c.self.inside.walk))

use Rattle.lsm_iters.proofs.LentLaws.{lending_lowers}
use Rattle.lsm_iters.proofs.iter.IterLending.advance.Goals as goal

pub returns-clause-lowers : goal.returns-clause-lowers
returns-clause-lowers g c = lending_lowers _ _ _ c.go_on.ensures.goes

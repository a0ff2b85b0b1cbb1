use Rattle.std.specs.Prelude.{Ok}
use Rattle.lsm_sorted.proofs.CompactionHears.{hears_put_ahead}
use Rattle.lsm_sorted.proofs.ahead.Ahead.put_back.Goals as goal

pub returns-clause-puts : goal.returns-clause-puts
returns-clause-puts g c = hears_put_ahead g.I.Iterator.next_gives c.args.self.now (Ok c.args.x) c.requires

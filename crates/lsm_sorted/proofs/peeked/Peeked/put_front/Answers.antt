use Rattle.std.specs.Prelude.{Ok}
use Rattle.lsm_sorted.proofs.PeekedLemmas.{hears_put}
use Rattle.lsm_sorted.proofs.peeked.Peeked.put_front.Goals as goal

pub returns-clause-puts : goal.returns-clause-puts
returns-clause-puts g c = hears_put g.I.Iterator.next_gives c.args.self.now (Ok c.args.x) c.requires

use Rattle.std.specs.Prelude.{Ok}
use Rattle.lsm_sorted.proofs.PeekedLemmas.{hears_put_back}
use Rattle.lsm_sorted.proofs.peeked.Peeked.put_back.Goals as goal

pub returns-clause-puts : goal.returns-clause-puts
returns-clause-puts g c = hears_put_back g.I.DoubleEndedIterator.next_back_gives c.args.self.now (Ok c.args.x) c.requires

use Rattle.std.proofs.Common.{refl}
use Rattle.sst_entries.proofs.StreamLemmas.{can_now}
use Rattle.lsm_sorted.proofs.BelowLemmas.{can_step_front, yields_in_front}
use Rattle.lsm_sorted.proofs.below.Below.new.Goals as goal

pub returns-clause-yields : goal.returns-clause-yields
returns-clause-yields g c = yields_in_front g.I.Iterator.next_gives _ c.args.iter c.args.seqno _ refl

pub returns-clause-can : goal.returns-clause-can
returns-clause-can g c = can_step_front g.I.Iterator.next_gives g.I.Iterator.can_next g.I.Iterator.remaining c.args.iter c.args.seqno _ refl

pub returns-clause-next : goal.returns-clause-next
returns-clause-next g c can ends = can_now _ _ _ _ _ ((returns-clause-can g c).asks can ends)

use Rattle.std.proofs.Common.{refl}
use Rattle.sst_entries.proofs.StreamLemmas.{can_now}
use Rattle.lsm_sorted.proofs.BelowLemmas.{yields_in_front}
use Rattle.lsm_sorted.specs.Below.{below_of}
use Rattle.lsm_sorted.proofs.LentBelows.{can_lend_below}
use Rattle.lsm_sorted.proofs.below.Below.lending.Goals as goal

pub returns-clause-yields : goal.returns-clause-yields
returns-clause-yields g c = yields_in_front g.L.Lending.advances _ c.args.source c.args.seqno _ refl

pub returns-clause-can : goal.returns-clause-can
returns-clause-can g c asks = can_lend_below g.L.Lending.advances g.L.Lending.can_advance g.L.Lending.left (below_of c.args.seqno c.args.source) asks

pub returns-clause-advance : goal.returns-clause-advance
returns-clause-advance g c asks = can_now _ _ _ _ _ (returns-clause-can g c asks)

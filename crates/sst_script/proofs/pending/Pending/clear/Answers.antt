use Rattle.sst_script.proofs.PendingLemmas.{nothing_pending}
use Rattle.sst_script.proofs.pending.Pending.clear.Goals as goal

pub invariant_of-self : goal.invariant_of-self
invariant_of-self g c = rw c.clear.ensures.items nothing_pending

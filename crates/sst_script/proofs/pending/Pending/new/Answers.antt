use Rattle.sst_script.proofs.PendingLemmas.{nothing_pending}
use Rattle.sst_script.proofs.pending.Pending.new.Goals as goal

pub invariant_of-result : goal.invariant_of-result
invariant_of-result g c = rw c.new.ensures.items nothing_pending

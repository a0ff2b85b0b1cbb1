use Rattle.std.proofs.Common.{◌∙◌}
use Rattle.lsm_readers.proofs.Steps.{beside_first, beside_is}
use Rattle.lsm_readers.proofs.table.TableClone.clone.Goals as goal

pub invariant_of-result : goal.invariant_of-result
invariant_of-result g c =
    let source = c.in_ok-source.source in
    let inner = c.in_ok-source.inner in
    let both = c.in_ok-source.ensures.both in
    let bytes = beside_first c.in_ok-clone.field-0 c.clone-2.result source inner both ∙ c.in_ok-clone.ensures.cases in
    let parts = beside_is _ _ c.in_ok-clone.field-0 c.clone-2.result source inner c.clone-2.ensures.cases both in
    rw (bytes, parts) c.self.invariant

use Rattle.std.proofs.Common.{sym, subst}
use Rattle.lsm_tables.specs.Words.{IsStrict, IsStrictAfter}
use Rattle.example_store.proofs.memtable.Memtable.clear.Goals as goal

pub invariant_of-self : goal.invariant_of-self
unfolding IsStrictAfter
invariant_of-self g c = subst IsStrict (sym c.clear.ensures.items) tt

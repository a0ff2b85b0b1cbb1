use Rattle.std.proofs.Common.{sym, subst}
use Rattle.lsm_tables.specs.Words.{IsStrict, IsStrictAfter}
use Rattle.example_store.proofs.memtable.Memtable.new.Goals as goal

pub invariant_of-result : goal.invariant_of-result
unfolding IsStrictAfter
invariant_of-result g c = subst IsStrict (sym c.new.ensures.items) tt

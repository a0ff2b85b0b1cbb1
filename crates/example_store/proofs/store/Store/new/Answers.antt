use Rattle.std.proofs.Common.{ap}
use Rattle.std.specs.Prelude.{map}
use Rattle.std.specs.Arc.{arc_value}
use Rattle.example_store.proofs.Stories.{valid_new}
use Rattle.example_store.proofs.store.Store.new.Goals as goal

pub invariant_of-result : goal.invariant_of-result
invariant_of-result g c = valid_new _ _ _ _ _ c.new-memtable.ensures (ap (map arc_value) c.new-runs.ensures.items)

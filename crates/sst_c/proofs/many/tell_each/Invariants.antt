use Rattle.std.proofs.Common.{◌≡◌, ◌++◌}
use Rattle.std.specs.Prelude.{map, take, drop}
use Rattle.sst_c.specs.Reported.{entry_facts}
use Rattle.sst_c.proofs.many.tell_each.Given as goal

abbrev pub invariant-loop-at : goal.invariant-loop-at
invariant-loop-at l = l.entries ≡ map entry_facts (take l.at l.found) ++ drop l.at l.initial.entries

-- The tables are in order where those that are left ascend above the last one.
use Rattle.std.proofs.Common.{◌≡◌, drop, None}
use Rattle.std.specs.Prelude.{map}
use Rattle.std.specs.Option.{option_copied}
use Rattle.lsm_sorted.proofs.RunLemmas.{ascends_after}
use Rattle.lsm_sorted.proofs.version.run.Run.is_in_order.Given as goal

abbrev pub invariant-loop-table : goal.invariant-loop-table
invariant-loop-table g l =
    ascends_after None (map g.T.Ranged.range l.self)
    ≡ ascends_after (option_copied l.last)
    (map g.T.Ranged.range (drop l.table-index l.table-items))

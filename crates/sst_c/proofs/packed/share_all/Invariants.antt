use Rattle.std.proofs.Common.{◌≡◌, take}
use Rattle.std.specs.Prelude.{map}
use Rattle.std.specs.Arc.{arc_value}
use Rattle.lsm_sorted.specs.version.Packing.{tables_in}
use Rattle.sst_c.proofs.packed.share_all.Given as goal

abbrev pub invariant-loop-run : goal.invariant-loop-run
invariant-loop-run l = l.tables.items ≡ tables_in (map arc_value (take l.run-index l.runs))

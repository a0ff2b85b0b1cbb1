use Rattle.std.proofs.Common.{◌≡◌, take}
use Rattle.sst_blocks.specs.Fnv.{fnv_from}
use Rattle.sst_blocks.proofs.fnv.update_both.Given as goal

abbrev pub invariant-loop-i : goal.invariant-loop-i
invariant-loop-i l = record {
  one : l.one ≡ fnv_from l.initial.one (take l.i l.first_bytes);
  other : l.other ≡ fnv_from l.initial.other (take l.i l.second_bytes);
}

use Rattle.std.proofs.Common.{◌≡◌, take}
use Rattle.sst_blocks.specs.Fnv.{fnv_from}
use Rattle.sst_blocks.proofs.fnv.hash_four.Given as goal

abbrev pub invariant-loop-i : goal.invariant-loop-i
invariant-loop-i l = record {
  first : l.a ≡ fnv_from l.initial.a (take l.i l.first);
  second : l.b ≡ fnv_from l.initial.b (take l.i l.second);
  third : l.c ≡ fnv_from l.initial.c (take l.i l.third);
  fourth : l.d ≡ fnv_from l.initial.d (take l.i l.fourth);
}

use Rattle.std.proofs.Common.{◌≡◌, ◌-◌, ◌^◌, ◌<◌, drop, length, take}
use Rattle.sst_blocks.specs.Fnv.{fnv_from}
use Rattle.sst_blocks.proofs.fnv.leads.Given as goal

abbrev pub invariant-loop-i : goal.invariant-loop-i
invariant-loop-i l = record {
  front : l.front ≡ fnv_from l.initial.front (take l.i l.bytes);
  back : fnv_from l.back (drop (length l.bytes - l.i) l.bytes) ≡ l.to;
  fits : l.back < 2 ^ 64;
}

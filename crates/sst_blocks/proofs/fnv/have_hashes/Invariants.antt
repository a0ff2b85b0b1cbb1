use Rattle.std.proofs.Common.{◌≡◌, ◌-◌, ◌*◌, ◌^◌, ◌<◌, drop, length, take}
use Rattle.sst_blocks.specs.Fnv.{fnv_from}
use Rattle.sst_blocks.proofs.fnv.have_hashes.Given as goal

abbrev pub invariant-loop-i : goal.invariant-loop-i
invariant-loop-i l = record {
  front : l.front ≡ fnv_from l.initial.front (take (2 * l.i) l.first);
  back : fnv_from l.back (drop (length l.first - 2 * l.i) l.first) ≡ l.first_sum;
  fits : l.back < 2 ^ 64;
  other_front : l.other_front ≡ fnv_from l.initial.other_front (take (2 * l.i) l.second);
  other_back : fnv_from l.other_back (drop (length l.second - 2 * l.i) l.second) ≡ l.second_sum;
  other_fits : l.other_back < 2 ^ 64;
}

-- The filter of some keys is one that a block can hold.
use Rattle.std.proofs.Common.{ℕ, ◌+◌, ◌*◌, ◌/◌, ◌-◌, ◌^◌, ◌<◌, ◌≤◌, List, length, arith}
use Rattle.std.specs.Prelude.{max, min}
use Rattle.sst_blocks.specs.declared.filter.policy.BloomConstructionPolicy.{BloomConstructionPolicy}
use Rattle.sst_blocks.specs.filter.Filter.{BloomFilter, IsBuilt}
use Rattle.sst_blocks.specs.filter.Policy.{tenths_of}
use Rattle.sst_blocks.specs.table.Filters.{IsFilterFor}

few : (n : ℕ) → (1 ≤ min 30 (max 1 n)) × (min 30 (max 1 n) ≤ 30)
few n = (omega arith, omega arith)

pub wide : (n : ℕ) → 8 ≤ min (2 ^ 64 - 1) (max 8 n)
wide n = omega arith

pub is_built : (policy : BloomConstructionPolicy) (keys : List (List ℕ)) (f : BloomFilter)
    → IsFilterFor policy keys f → 25 + length f.bits < 2 ^ 32 → IsBuilt f
is_built policy keys f is short = record {
  some = rw (is.probes) ((few (tenths_of policy * 69 / 1000)).0);
  few = rw (is.probes) ((few (tenths_of policy * 69 / 1000)).1);
  wide = rw (is.size) (wide ((length keys * tenths_of policy + 79) / 80));
  short = short;
}

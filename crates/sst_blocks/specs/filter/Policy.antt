-- The size of a filter, by its bits per key, in tenths of a bit.
use Rattle.std.specs.Prelude.{ℕ, ◌+◌, ◌-◌, ◌*◌, ◌/◌, ◌^◌, nat_le, Option}
use Rattle.std.specs.Prelude.{Some, None, min, max, replicate, if◌then◌else◌}
use Rattle.sst_entries.specs.declared.error.Error.{Error}
use Rattle.sst_entries.specs.declared.error.Error.TheVariants.{BlockTooLarge}
use Rattle.sst_blocks.specs.filter.Filter.{BloomFilter}
use Rattle.sst_blocks.specs.declared.filter.policy.BloomConstructionPolicy.{BloomConstructionPolicy}
use Rattle.sst_blocks.specs.declared.filter.policy.BloomConstructionPolicy.TheVariants.{BitsPerKey}

-- the bits per key of a policy, in tenths
abbrev pub tenths_of : BloomConstructionPolicy → ℕ
tenths_of (BitsPerKey tenths) = tenths

-- the number of probes for a hash: 69 for each 1000 tenths of a bit, from 1 to 30
abbrev pub probe_count : ℕ → ℕ
probe_count tenths = min 30 (max 1 (tenths * 69 / 1000))

-- the bytes of bits for n keys, at least 8
abbrev pub size_for : ℕ → ℕ → ℕ
size_for tenths n = min (2 ^ 64 - 1) (max 8 ((n * tenths + 79) / 80))

-- the length of the block of a filter for n keys: its header, the number of probes and the bits
abbrev pub bound_for : ℕ → ℕ → ℕ
bound_for tenths n = min (2 ^ 64 - 1) (25 + size_for tenths n)

-- the fault of a filter whose block is too large
abbrev pub fault_for : ℕ → ℕ → Option Error
fault_for tenths n = if nat_le (2 ^ 32) (bound_for tenths n) then Some BlockTooLarge else None

-- a filter for n keys with no bit set
abbrev pub empty_filter : ℕ → ℕ → BloomFilter
empty_filter tenths n = record {
  probe_count = probe_count tenths;
  bits =
      replicate (size_for tenths n) 0;
}

-- Bloom filters: the bits of a hash, and the filter of a list of hashes.
use Rattle.std.specs.Prelude.{◌≡◌, ℕ, zero, suc, ◌+◌, ◌*◌, ◌/◌, ◌%◌, ◌^◌, ◌<◌, ◌≤◌, ◌==◌, ◌||◌}
use Rattle.std.specs.Prelude.{Bool}
use Rattle.std.specs.Prelude.{List, [], ◌∷◌, ◌++◌, length, slice_index_or, bit_or}
use Rattle.std.specs.Int.{bit_at}
use Rattle.std.specs.List.{list_any, list_all}

-- the distance between a hash's probes: its upper half, with the lowest bit set
abbrev pub stride : ℕ → ℕ
stride h = bit_or (h / 2 ^ 32) 1

-- the bit of probe i of a hash, among m bits
abbrev pub probe : ℕ → ℕ → ℕ → ℕ
probe m h i = ((h + i * stride h) % 2 ^ 64) % m

-- the bits of the first k probes
unfoldable pub probes : ℕ → ℕ → ℕ → List ℕ
probes m h zero = []
probes m h (suc i) = probes m h i ++ probe m h i ∷ []

-- bit p of some bytes, lowest bit first
abbrev pub is_set : List ℕ → ℕ → Bool
is_set bytes p = bit_at (slice_index_or bytes (p / 8) 0) (p % 8) == 1

-- a list contains a number
abbrev pub is_in : ℕ → List ℕ → Bool
is_in p ps = list_any (λ q. q == p) ps

-- a filter: the number of probes for a hash, and the bytes of its bits
pub record BloomFilter : Type 0 where
  pub probe_count : ℕ
  pub bits : List ℕ

-- the bits of a hash in a filter
abbrev pub probes_of : BloomFilter → ℕ → List ℕ
probes_of f h = probes (8 * length f.bits) h f.probe_count

-- all bits of a hash are set
abbrev pub admits : BloomFilter → ℕ → Bool
admits f h = list_all (is_set f.bits) (probes_of f h)

-- exactly the bits of these hashes are set
pub record IsFilterOf (f : BloomFilter) (hashes : List ℕ) : Type 0 where
  pub bits : (p : ℕ) → p < 8 * length f.bits →
      is_set f.bits p ≡ list_any (λ h. is_in p (probes_of f h)) hashes

-- exactly the bits of one more hash are added
pub record Gains (f : BloomFilter) (h : ℕ) (g : BloomFilter) : Type 0 where
  pub probe_count_is : g.probe_count ≡ f.probe_count
  pub same_length : length g.bits ≡ length f.bits
  pub bits : (p : ℕ) → p < 8 * length f.bits →
      is_set g.bits p ≡ (is_set f.bits p || is_in p (probes_of f h))

-- a payload: the number of probes, then the bits
abbrev pub payload_of : BloomFilter → List ℕ
payload_of f = f.probe_count ∷ f.bits

-- a filter as built: 1 to 30 probes and at least 8 bytes of bits. Its block, with 25 bytes of
-- header and probe count, is shorter than 2^32.
pub record IsBuilt (f : BloomFilter) : Type 0 where
  pub some : 1 ≤ f.probe_count
  pub few : f.probe_count ≤ 30
  pub wide : 8 ≤ length f.bits
  pub short : 25 + length f.bits < 2 ^ 32

-- the filter of a payload
abbrev pub filter_in : List ℕ → BloomFilter
filter_in [] = record { probe_count = 0; bits = [] }
filter_in (k ∷ bits) = record { probe_count = k; bits = bits }

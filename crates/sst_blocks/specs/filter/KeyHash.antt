-- The hash of keys for filters.
use Rattle.std.specs.Prelude.{ℕ, List}
use Rattle.sst_blocks.specs.Fnv.{fnv1a}

-- FNV-1a in 64 bits
abbrev pub hash_of : List ℕ → ℕ
hash_of key = fnv1a key

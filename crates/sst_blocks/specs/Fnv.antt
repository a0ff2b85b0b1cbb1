-- FNV-1a in 64 bits: http://www.isthe.com/chongo/tech/comp/fnv/
use Rattle.std.specs.Prelude.{ℕ, ◌*◌, ◌%◌, ◌^◌, List, [], ◌∷◌, bit_xor}

abbrev pub fnv_basis : ℕ
fnv_basis = 0xcbf29ce484222325

abbrev pub fnv_prime : ℕ
fnv_prime = 0x100000001b3

-- one step: xor a byte into the value, then multiply by the prime modulo 2^64
abbrev pub fnv_step : ℕ → ℕ → ℕ
fnv_step h b = (bit_xor h b * fnv_prime) % 2 ^ 64

-- the inverse of the prime: fnv_prime * fnv_inverse is 1 modulo 2^64
abbrev pub fnv_inverse : ℕ
fnv_inverse = 0xce965057aff6957b

-- the inverse of a step with this byte
abbrev pub fnv_back : ℕ → ℕ → ℕ
fnv_back h b = bit_xor ((h * fnv_inverse) % 2 ^ 64) b

-- steps over all bytes, starting from a value
unfoldable pub fnv_from : ℕ → List ℕ → ℕ
fnv_from h [] = h
fnv_from h (b ∷ bs) = fnv_from (fnv_step h b) bs

abbrev pub fnv1a : List ℕ → ℕ
fnv1a bytes = fnv_from fnv_basis bytes

-- Integers as little-endian bytes.
use Rattle.std.specs.Prelude.{ℕ, List}
use Rattle.byteorder.specs.Endian.{little_bytes, little_number}

-- an integer in 2, 4, 8 or 16 bytes
unfoldable pub le2 : ℕ → List ℕ
le2 n = little_bytes 2 n

unfoldable pub le4 : ℕ → List ℕ
le4 n = little_bytes 4 n

unfoldable pub le8 : ℕ → List ℕ
le8 n = little_bytes 8 n

unfoldable pub le16 : ℕ → List ℕ
le16 n = little_bytes 16 n

-- the integer in the first 2, 4, 8 or 16 bytes
unfoldable pub num2 : List ℕ → ℕ
num2 bytes = little_number 2 bytes

unfoldable pub num4 : List ℕ → ℕ
num4 bytes = little_number 4 bytes

unfoldable pub num8 : List ℕ → ℕ
num8 bytes = little_number 8 bytes

unfoldable pub num16 : List ℕ → ℕ
num16 bytes = little_number 16 bytes

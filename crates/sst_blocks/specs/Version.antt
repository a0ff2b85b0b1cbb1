-- Differences between format versions: the magic number of a block, the width of a key length, the
-- longest key.
use Rattle.std.specs.Prelude.{ℕ, ◌^◌, if◌then◌else◌, List, [], ◌∷◌, Option, Some, None, nat_eq}
use Rattle.std.specs.Cmp.Lexicographic.{pointwise}
use Rattle.sst_blocks.specs.Number.{le2, le4, num2, num4}
use Rattle.sst_blocks.specs.declared.version.TableVersion.{TableVersion}
use Rattle.sst_blocks.specs.declared.version.TableVersion.TheVariants.{V3, V4}

-- LBK1 and LBK2
abbrev pub mark : TableVersion → List ℕ
mark V3 = 0x4c ∷ 0x42 ∷ 0x4b ∷ 0x31 ∷ []
mark V4 = 0x4c ∷ 0x42 ∷ 0x4b ∷ 0x32 ∷ []

-- the version with this magic number, if any
abbrev pub version_of : List ℕ → Option TableVersion
version_of bytes =
    if pointwise nat_eq bytes (mark V3) then Some V3
    else (if pointwise nat_eq bytes (mark V4) then Some V4 else None)

-- the width of a key length in bytes
abbrev pub key_width : TableVersion → ℕ
key_width V3 = 2
key_width V4 = 4

-- the exclusive bound of a key length
abbrev pub key_limit : TableVersion → ℕ
key_limit V3 = 2 ^ 16
key_limit V4 = 2 ^ 32

-- a key length as bytes
abbrev pub key_len_bytes : TableVersion → ℕ → List ℕ
key_len_bytes V3 = le2
key_len_bytes V4 = le4

-- the key length at the front of some bytes
abbrev pub key_len_at : TableVersion → List ℕ → ℕ
key_len_at V3 = num2
key_len_at V4 = num4

-- the longest key that a writer accepts
abbrev pub longest_key : TableVersion → ℕ
longest_key V3 = 65535
longest_key V4 = 1048576

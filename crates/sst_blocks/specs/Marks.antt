-- Payloads with a verified checksum or a verified grammar, and the verified-block cache.
use Rattle.std.specs.Prelude.{◌≡◌, ℕ, ◌+◌, ◌-◌, ◌*◌, true, List, slice_index, slice_range}
use Rattle.sst_blocks.specs.declared.block_type.BlockType.{BlockType}
use Rattle.sst_blocks.specs.declared.marks.Verified.{Verified}
use Rattle.sst_blocks.specs.declared.marks.Verified.TheVariants.{Checksum, Grammar}
use Rattle.sst_blocks.specs.Block.{data_len, header_len, in_grammar, kind_tag, stored_checksum}
use Rattle.sst_blocks.specs.Block.{version_in}
use Rattle.sst_blocks.specs.Fnv.{fnv1a}

-- the header before a payload
abbrev pub head_before : List ℕ → ℕ → List ℕ
head_before bytes start = slice_range bytes (start - header_len) start

-- the payload at this offset has the checksum in the header before it
unfoldable pub HasSum : List ℕ → ℕ → Type 0
HasSum bytes start =
    fnv1a (slice_range bytes start (start + data_len (head_before bytes start)))
    ≡ stored_checksum (head_before bytes start)

-- the payload at this offset follows the grammar of the type and version in its header
unfoldable pub HasItems : List ℕ → ℕ → Type 0
HasItems bytes start =
    let head = head_before bytes start in
    (kind : BlockType) → slice_index head 4 ≡ kind_tag kind →
    in_grammar (version_in head) kind (slice_range bytes start (start + data_len head)) ≡ true

-- what the cache can say of the payload at an offset
abbrev pub Holds : Verified → List ℕ → ℕ → Type 0
Holds Checksum bytes start = HasSum bytes start
Holds Grammar bytes start = HasSum bytes start × HasItems bytes start

-- a cache entry is 0, or encodes an offset whose payload has a verified checksum, or also a
-- verified grammar
pub record Says (bytes : List ℕ) (word : ℕ) : Type 0 where
  pub sum : (start : ℕ) → word ≡ 2 * start + 1 → HasSum bytes start
  pub tested : (start : ℕ) → word ≡ 2 * start + 2 → HasSum bytes start × HasItems bytes start

abbrev pub AllSay : List ℕ → List ℕ → Type 0
AllSay bytes words = (i : ℕ) → Says bytes (slice_index words i)

-- The payload of an index block: its encoding, its decoding, and the range of keys that a handle
-- reaches.
use Rattle.std.specs.Prelude.{ℕ, ◌+◌, ◌<◌, ◌^◌, List, [], ◌∷◌, ◌++◌, length, take, drop, Bool, ◌&&◌}
use Rattle.std.specs.Prelude.{◌||◌, nat_lt, Option, Some, None, if◌then◌else◌}
use Rattle.sst_blocks.specs.declared.version.TableVersion.{TableVersion}
use Rattle.sst_entries.specs.declared.value_type.ValueType.TheVariants.{Value}
use Rattle.sst_entries.specs.Entry.{Entry, entry}
use Rattle.sst_blocks.specs.Handle.{Handle}
use Rattle.sst_blocks.specs.Format.{Format, items_in}
use Rattle.sst_blocks.specs.Payload.{AreFit, items_payload}
use Rattle.sst_entries.specs.Key.{same_key, key_lt}
use Rattle.sst_blocks.specs.Number.{le4, le8, num4, num8}
use Rattle.sst_blocks.specs.Version.{key_width, key_len_bytes, key_len_at, key_limit}
use Rattle.sst_entries.specs.Strict.{IsStrict}
use Rattle.std.specs.Prelude.{map}

-- the last entry of a handle's block, without its value and type
abbrev pub end_of : Handle → Entry
end_of h = entry h.end_key [] h.seqno Value

-- strictly sorted by end key and sequence number
abbrev pub AreStrictHandles : List Handle → Type 0
AreStrictHandles hs = IsStrict (map end_of hs)

-- the sequence number, the offset, the size and the key length
abbrev pub handle_head : TableVersion → Handle → List ℕ
handle_head v h = le8 h.seqno ++ le8 h.offset ++ le4 h.size ++ key_len_bytes v (length h.end_key)

-- one handle: its head and its end key
unfoldable pub handle_spelled : TableVersion → Handle → List ℕ
handle_spelled v h = handle_head v h ++ h.end_key

-- the count, then the handles in order
unfoldable pub handles_payload : TableVersion → List Handle → List ℕ
handles_payload v hs = items_payload (handle_spelled v) hs

-- a handle whose fields can be encoded
pub record IsSpellableHandle (v : TableVersion) (h : Handle) : Type 0 where
  pub number : h.seqno < 2 ^ 64
  pub offset : h.offset < 2 ^ 64
  pub size : h.size < 2 ^ 32
  pub key_len : length h.end_key < key_limit v

abbrev pub AreSpellableHandles : TableVersion → List Handle → Type 0
AreSpellableHandles v hs = AreFit (IsSpellableHandle v) hs

-- the handle at the front of some bytes, and the bytes after it
unfoldable pub handle_at : TableVersion → List ℕ → Option (Handle × List ℕ)
handle_at v bytes =
    let k = key_len_at v (drop 20 bytes) in
    let rest = drop (20 + key_width v) bytes in
    if nat_lt (length bytes) (20 + key_width v) then None
    else (if nat_lt (length rest) k then None
    else Some (
      record {
        end_key = take k rest;
        seqno = num8 bytes;
        offset = num8 (drop 8 bytes);
        size = num4 (drop 16 bytes);
      },
      drop k rest,
    ))

-- the format of a handle, sorted by the last entry of its block
abbrev pub handle_format : TableVersion → Format Handle
handle_format v = record { spell = handle_spelled v; read = handle_at v; key = end_of }

-- the strictly sorted list of handles in a payload, if it is valid
unfoldable pub handles_in : TableVersion → List ℕ → Option (List Handle)
handles_in v bytes = items_in (handle_format v) bytes

-- the handle's block can hold a version of the key visible at a bound, or a later entry
abbrev pub reaches : List ℕ → ℕ → Handle → Bool
reaches key bound h = key_lt key h.end_key || (same_key h.end_key key && nat_lt h.seqno bound)

-- the handle's block ends after the key
abbrev pub is_above : List ℕ → Handle → Bool
is_above key h = key_lt key h.end_key

-- the items from the first that passes a test on; and those up to and including it, or all
abbrev pub from_first : {A : Type 0} → (A → Bool) → List A → List A
from_first p [] = []
from_first p (x ∷ xs) = if p x then x ∷ xs else from_first p xs

abbrev pub up_to_first : {A : Type 0} → (A → Bool) → List A → List A
up_to_first p [] = []
up_to_first p (x ∷ xs) = if p x then x ∷ [] else x ∷ up_to_first p xs

-- the edges of a window; a side without an edge is unbounded
abbrev pub from_edge : Option (List ℕ × ℕ) → List Handle → List Handle
from_edge None hs = hs
from_edge (Some edge) hs = from_first (reaches edge.0 edge.1) hs

abbrev pub to_edge : Option (List ℕ) → List Handle → List Handle
to_edge None hs = hs
to_edge (Some key) hs = up_to_first (is_above key) hs

-- the handles from the first that reaches the lower edge to the first whose end key is above the
-- upper one, or to the last
abbrev pub window : List Handle → Option (List ℕ × ℕ) → Option (List ℕ) → List Handle
window hs lo hi = from_edge lo (to_edge hi hs)

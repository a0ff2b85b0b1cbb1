-- The payload of a block: the encoding of a list of items, and of a list of entries.
use Rattle.std.specs.Prelude.{ℕ, ◌<◌, ◌^◌, List, [], ◌∷◌, ◌++◌, length}
use Rattle.std.specs.List.{flat_map, AllByRecursion}
use Rattle.sst_blocks.specs.declared.version.TableVersion.{TableVersion}
use Rattle.sst_entries.specs.Entry.{Entry}
use Rattle.sst_entries.specs.Kind.{tag_of}
use Rattle.sst_blocks.specs.Number.{le4, le8}
use Rattle.sst_blocks.specs.Version.{key_len_bytes, key_limit}

-- the count, then the items in order
abbrev pub items_payload : {X : Type 0} → (X → List ℕ) → List X → List ℕ
items_payload spell xs = le4 (length xs) ++ flat_map spell xs

-- fewer than 2^32 items, and each can be encoded
abbrev pub AreFit : {X : Type 0} → (X → Type 0) → List X → Type 0
AreFit Fits xs = (length xs < 2 ^ 32) × AllByRecursion Fits xs

-- the value type, the sequence number and both lengths
abbrev pub entry_head : TableVersion → Entry → List ℕ
entry_head v e =
    (tag_of e.kind ∷ []) ++ le8 e.seqno
    ++ key_len_bytes v (length e.user_key) ++ le4 (length e.value)

-- an encoded entry: its head, its key, its value
unfoldable pub spelled : TableVersion → Entry → List ℕ
spelled v e = entry_head v e ++ e.user_key ++ e.value

-- the count, then the entries in order
unfoldable pub payload : TableVersion → List Entry → List ℕ
payload v es = items_payload (spelled v) es

-- an entry whose fields can be encoded
pub record IsSpellable (v : TableVersion) (e : Entry) : Type 0 where
  pub number : e.seqno < 2 ^ 64
  pub key_len : length e.user_key < key_limit v
  pub value_len : length e.value < 2 ^ 32

abbrev pub AreSpellable : TableVersion → List Entry → Type 0
AreSpellable v es = AreFit (IsSpellable v) es

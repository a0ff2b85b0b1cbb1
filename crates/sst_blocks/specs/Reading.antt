-- Decoding the payload of a data or meta block.
use Rattle.std.specs.Prelude.{ℕ, ◌+◌, List, length, take, drop, slice_index, Option, Some, None}
use Rattle.std.specs.Prelude.{option_and_then, nat_lt, if◌then◌else◌}
use Rattle.sst_blocks.specs.declared.version.TableVersion.{TableVersion}
use Rattle.sst_entries.specs.declared.value_type.ValueType.{ValueType}
use Rattle.sst_entries.specs.Entry.{Entry, entry}
use Rattle.sst_entries.specs.Kind.{kind_of}
use Rattle.sst_blocks.specs.Number.{num4, num8}
use Rattle.sst_blocks.specs.Version.{key_width, key_len_at}
use Rattle.sst_blocks.specs.Format.{Format, items_in}
use Rattle.sst_blocks.specs.Payload.{spelled}

-- after the value type and the sequence number: both lengths, the key and the value
unfoldable pub parts_at : TableVersion → ValueType → ℕ → List ℕ → Option (Entry × List ℕ)
parts_at v t n bytes =
    let k = key_len_at v bytes in
    let m = num4 (drop (key_width v) bytes) in
    let rest = drop 4 (drop (key_width v) bytes) in
    if nat_lt (length rest) (k + m) then None
    else Some (entry (take k rest) (take m (drop k rest)) n t, drop m (drop k rest))

-- the entry at the front of some bytes, and the bytes after it
unfoldable pub entry_at : TableVersion → List ℕ → Option (Entry × List ℕ)
entry_at v bytes =
    if nat_lt (length bytes) (13 + key_width v) then None
    else option_and_then (λ t. parts_at v t (num8 (drop 1 bytes)) (drop 8 (drop 1 bytes)))
    (kind_of (slice_index bytes 0))

-- the key and the sequence number of an entry, which a search reads
abbrev pub key_and_number : Entry → List ℕ × ℕ
key_and_number e = (e.user_key, e.seqno)

-- the format of an entry, sorted by itself
abbrev pub entry_format : TableVersion → Format Entry
entry_format v = record { spell = spelled v; read = entry_at v; key = λ e. e }

-- the strictly sorted list of entries in a payload, if it is valid
unfoldable pub entries_in : TableVersion → List ℕ → Option (List Entry)
entries_in v bytes = items_in (entry_format v) bytes

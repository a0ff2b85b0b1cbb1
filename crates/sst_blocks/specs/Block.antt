-- Blocks in a table's bytes: a header of 24 bytes, then the payload. A load returns a block or the
-- first fault.
use Rattle.std.specs.Prelude.{◌≡◌, ℕ, ◌+◌, ◌*◌, ◌==◌, ◌&&◌, ◌||◌, not, nat_lt, nat_le, Bool, false}
use Rattle.std.specs.Prelude.{List, [], ◌∷◌, ◌++◌, length, take, drop, slice_index, slice_range}
use Rattle.std.specs.Prelude.{Option, Some, None, is_some, is_none, unwrap_or, Result, Ok, Err}
use Rattle.std.specs.Prelude.{if◌then◌else◌}
use Rattle.std.specs.Option.{option_or}
use Rattle.sst_blocks.specs.declared.version.TableVersion.{TableVersion}
use Rattle.sst_blocks.specs.declared.version.TableVersion.TheVariants.{V4}
use Rattle.sst_blocks.specs.declared.block_type.BlockType.{BlockType}
use Rattle.sst_blocks.specs.declared.block_type.BlockType.TheVariants.{Data, Index, Filter, Meta}
use Rattle.sst_entries.specs.declared.error.Error.{Error}
use Rattle.sst_entries.specs.declared.error.Error.TheVariants.{Truncated, InvalidHeader, InvalidTag}
use Rattle.sst_entries.specs.declared.error.Error.TheVariants.{ChecksumMismatch, InvalidBlock}
use Rattle.sst_entries.specs.declared.error.Error.TheVariants.{UnsupportedCompression}
use Rattle.sst_entries.specs.declared.error.TagName.TheVariants.{BlockType as BlockTypeTag}
use Rattle.sst_entries.specs.Entry.{Entry}
use Rattle.sst_entries.specs.Error.{unless}
use Rattle.sst_blocks.specs.Fnv.{fnv1a}
use Rattle.sst_blocks.specs.Handle.{Handle}
use Rattle.sst_blocks.specs.Handles.{handles_in}
use Rattle.sst_blocks.specs.Number.{le4, le8, num4, num8}
use Rattle.sst_blocks.specs.Reading.{entries_in}
use Rattle.sst_blocks.specs.Version.{key_width, mark, version_of}

abbrev pub kind_tag : BlockType → ℕ
kind_tag Data = 0
kind_tag Index = 1
kind_tag Filter = 2
kind_tag Meta = 3

-- a block without its header
pub record Loaded : Type 0 where
  pub version : TableVersion
  pub kind : BlockType
  pub payload : List ℕ

-- 1 to 30 probes, and at least one byte of bits
abbrev pub is_filter : List ℕ → Bool
is_filter [] = false
is_filter (k ∷ []) = false
is_filter (k ∷ b ∷ bits) = nat_le 1 k && nat_le k 30

-- the payload follows the grammar of its block type
abbrev pub in_grammar : TableVersion → BlockType → List ℕ → Bool
in_grammar v Data payload = is_some (entries_in v payload)
in_grammar v Meta payload = is_some (entries_in v payload)
in_grammar v Index payload = is_some (handles_in v payload)
in_grammar v Filter payload = is_filter payload

-- the length of a header in bytes
abbrev pub header_len : ℕ
header_len = 24

-- the magic number, the block type, no compression, two zero bytes, the payload length twice, the
-- checksum
abbrev pub header : TableVersion → BlockType → List ℕ → List ℕ
header v kind payload =
    mark v ++ (kind_tag kind ∷ 0 ∷ 0 ∷ 0 ∷ [])
    ++ le4 (length payload) ++ le4 (length payload) ++ le8 (fnv1a payload)

abbrev pub block_bytes : TableVersion → BlockType → List ℕ → List ℕ
block_bytes v kind payload = header v kind payload ++ payload

-- the first fault of a header's magic number, zero bytes, block type or compression
abbrev pub header_fault : BlockType → List ℕ → Option Error
header_fault kind head =
    if is_none (version_of (take 4 head)) || not
    (slice_index head 6 == 0 && slice_index head 7 == 0)
    then Some InvalidHeader
    else (if not (slice_index head 4 == kind_tag kind)
    then Some (InvalidTag BlockTypeTag (slice_index head 4))
    else (if not (slice_index head 5 == 0) then Some UnsupportedCompression
    else None))

-- the two lengths and the checksum of a header
abbrev pub data_len : List ℕ → ℕ
data_len head = num4 (drop 8 head)

abbrev pub uncompressed_len : List ℕ → ℕ
uncompressed_len head = num4 (drop 12 head)

abbrev pub stored_checksum : List ℕ → ℕ
stored_checksum head = num8 (drop 16 head)

-- the version given by a header's magic number; V4 where the magic number is unknown
abbrev pub version_in : List ℕ → TableVersion
version_in head = unwrap_or (version_of (take 4 head)) V4

abbrev pub grammar_fault : TableVersion → BlockType → List ℕ → Option Error
grammar_fault v kind payload = if not (in_grammar v kind payload) then Some InvalidBlock else None

-- the fault of a payload whose checksum differs from the header's
abbrev pub checksum_fault : ℕ → List ℕ → Option Error
checksum_fault checksum payload =
    if not (fnv1a payload == checksum) then Some ChecksumMismatch else None

-- a count, followed by room for that many items of at least `least` bytes each
unfoldable pub has_room_for : ℕ → List ℕ → Bool
has_room_for least payload = nat_le (4 + least * num4 payload) (length payload)

-- a payload has room for the items it counts, at the minimum size of an item; a filter follows its
-- grammar
abbrev pub has_room : TableVersion → BlockType → List ℕ → Bool
has_room v Data payload = has_room_for (13 + key_width v) payload
has_room v Meta payload = has_room_for (13 + key_width v) payload
has_room v Index payload = has_room_for (20 + key_width v) payload
has_room v Filter payload = is_filter payload

-- the fault of a payload's grammar that is found before allocating
abbrev pub room_fault : TableVersion → BlockType → List ℕ → Option Error
room_fault v kind payload = if not (has_room v kind payload) then Some InvalidBlock else None

-- a payload with its checksum verified, then its grammar
unfoldable pub checked_payload : TableVersion → ℕ → BlockType → List ℕ → Result Loaded Error
checked_payload v checksum kind payload =
    if not (fnv1a payload == checksum) then Err ChecksumMismatch
    else unless (grammar_fault v kind payload)
    (Ok (record { version = v; kind = kind; payload = payload }))

-- the block of a type at an offset in the bytes before the trailer, or the first fault
unfoldable pub load_result : List ℕ → ℕ → ℕ → BlockType → Result Loaded Error
load_result body offset size kind =
    let head = slice_range body offset (offset + header_len) in
    if nat_lt size header_len || nat_lt (length body) (offset + size) then Err Truncated
    else unless (header_fault kind head)
    (if not (data_len head == uncompressed_len head) || not (header_len + data_len head == size)
    then Err InvalidHeader
    else checked_payload (version_in head) (stored_checksum head) kind
    (slice_range body (offset + header_len) (offset + size)))

-- the same with the size from the header
unfoldable pub load_at_result : List ℕ → ℕ → BlockType → Result Loaded Error
load_at_result body position kind =
    let head = slice_range body position (position + header_len) in
    if nat_lt (length body) (position + header_len) then Err Truncated
    else unless (header_fault kind head)
    (if not (data_len head == uncompressed_len head) then Err InvalidHeader
    else (if nat_lt (length body) (position + header_len + data_len head) then Err Truncated
    else checked_payload (version_in head) (stored_checksum head) kind
    (slice_range body (position + header_len) (position + header_len + data_len head))))

-- the first fault that a load finds before it allocates: length, header, payload lengths, checksum,
-- room for the counted items, filter grammar
unfoldable pub place_fault : List ℕ → ℕ → ℕ → BlockType → Option Error
place_fault body offset size kind =
    let head = slice_range body offset (offset + header_len) in
    if nat_lt size header_len || nat_lt (length body) (offset + size) then Some Truncated
    else option_or (header_fault kind head)
    (if not (data_len head == uncompressed_len head) || not (header_len + data_len head == size)
    then Some InvalidHeader
    else let payload = slice_range body (offset + header_len) (offset + size) in
    option_or (checksum_fault (stored_checksum head) payload)
    (room_fault (version_in head) kind payload))

-- the same with the size from the header
unfoldable pub position_fault : List ℕ → ℕ → BlockType → Option Error
position_fault body position kind =
    let head = slice_range body position (position + header_len) in
    if nat_lt (length body) (position + header_len) then Some Truncated
    else option_or (header_fault kind head)
    (if not (data_len head == uncompressed_len head) then Some InvalidHeader
    else (if nat_lt (length body) (position + header_len + data_len head) then Some Truncated
    else let end = position + header_len + data_len head in
    let payload = slice_range body (position + header_len) end in
    option_or (checksum_fault (stored_checksum head) payload)
    (room_fault (version_in head) kind payload)))

-- the size of a block by its header, or the first fault of the header
abbrev pub head_size : BlockType → List ℕ → Result ℕ Error
head_size kind head =
    unless (header_fault kind head)
    (if not (data_len head == uncompressed_len head) then Err InvalidHeader
    else Ok (header_len + data_len head))

-- the block of a type that some bytes are, or the first fault
abbrev pub decode_block : BlockType → List ℕ → Result Loaded Error
decode_block kind bytes = load_result bytes 0 (length bytes) kind

-- the first fault that is found before allocating
abbrev pub decode_fault : BlockType → List ℕ → Option Error
decode_fault kind bytes = place_fault bytes 0 (length bytes) kind

-- a block without its header
abbrev pub loaded : TableVersion → BlockType → List ℕ → Loaded
loaded v kind payload = record { version = v; kind = kind; payload = payload }

-- whatever bytes surround it, an encoded block loads again, by its handle and at its position
abbrev pub LoadsBack : TableVersion → BlockType → List ℕ → Type 0
LoadsBack v kind payload =
    (front behind : List ℕ) → let body = front ++ block_bytes v kind payload ++ behind in
    (load_result body (length front) (header_len + length payload) kind ≡ Ok (loaded v kind payload))
    × (load_at_result body (length front) kind ≡ Ok (loaded v kind payload))

-- the entries and the handles of a loaded block
abbrev pub entries_of : Loaded → List Entry
entries_of b = unwrap_or (entries_in b.version b.payload) []

abbrev pub handles_of : Loaded → List Handle
handles_of b = unwrap_or (handles_in b.version b.payload) []

-- A payload in a table's bytes, and which checks it has passed.
use Rattle.std.specs.Prelude.{◌≡◌, ◌≤◌, ◌<◌, ◌+◌, ◌^◌, ℕ, true, List, length, slice_index}
use Rattle.std.specs.Prelude.{slice_range, IsTrue, None, Option, Result}
use Rattle.std.specs.Option.{option_or}
use Rattle.sst_entries.specs.declared.error.Error.{Error}
use Rattle.sst_blocks.specs.declared.block.range.PayloadRange.{PayloadRange}
use Rattle.sst_blocks.specs.declared.block_type.BlockType.{BlockType}
use Rattle.sst_blocks.specs.declared.marks.Verified.TheVariants.{Grammar}
use Rattle.sst_blocks.specs.declared.source.payload.Payload.{Payload}
use Rattle.sst_blocks.specs.Block.{Loaded, checked_payload, checksum_fault, data_len, has_room}
use Rattle.sst_blocks.specs.Block.{header_fault, header_len, in_grammar, kind_tag, room_fault}
use Rattle.sst_blocks.specs.Block.{stored_checksum, version_in}
use Rattle.sst_blocks.specs.Marks.{Holds, head_before}
use Rattle.sst_blocks.specs.Fnv.{fnv1a}
use Rattle.sst_blocks.specs.Sections.{body_of}

-- the bytes of the payload
abbrev pub payload_in : List ℕ → Payload → List ℕ
payload_in body p = slice_range body p.start p.end

-- the block of the payload, or the first fault
abbrev pub checked_in : List ℕ → BlockType → Payload → Result Loaded Error
checked_in body kind p = checked_payload p.header.version p.header.checksum kind (payload_in body p)

-- the first fault that is found before allocating
abbrev pub fault_in : List ℕ → BlockType → Payload → Option Error
fault_in body kind p =
    option_or (checksum_fault p.header.checksum (payload_in body p))
    (room_fault p.header.version kind (payload_in body p))

-- the header at an offset has no fault, and gives the payload's version, checksum and length
pub record IsRangeAt (body : List ℕ) (offset : ℕ) (kind : BlockType) (p : PayloadRange) : Type 0 where
  pub start : p.start ≡ offset + header_len
  pub end : p.start + p.header.data_len ≡ p.end
  pub within : p.end ≤ length body
  pub short : p.header.data_len < 2 ^ 32
  pub fault : header_fault kind (slice_range body offset (offset + header_len)) ≡ None
  pub version : p.header.version ≡ version_in (slice_range body offset (offset + header_len))
  pub checksum : p.header.checksum ≡ stored_checksum
      (slice_range body offset (offset + header_len))
  pub len : p.header.data_len ≡ data_len (slice_range body offset (offset + header_len))

-- the payload is within the bytes before the trailer, and the header before it has its checksum and
-- length
pub record IsHeaded (bytes : List ℕ) (p : Payload) : Type 0 where
  pub ordered : p.start ≤ p.end
  pub within : p.end ≤ length (body_of bytes)
  pub short : p.end < p.start + 2 ^ 32
  pub sum : stored_checksum (head_before bytes p.start) ≡ p.header.checksum
  pub len : p.start + data_len (head_before bytes p.start) ≡ p.end

-- the header also has its version and type, and what the cache says of it holds
pub record IsPlaced (bytes : List ℕ) (kind : BlockType) (p : Payload) : Type 0 where
  pub headed : IsHeaded bytes p
  pub version : version_in (head_before bytes p.start) ≡ p.header.version
  pub kind_is : slice_index (head_before bytes p.start) 4 ≡ kind_tag kind
  pub verified : IsTrue p.is_verified → Holds Grammar bytes p.start

-- the payload matches its checksum and has room for the items it counts; once verified, it follows
-- its grammar
pub record IsValid (body : List ℕ) (kind : BlockType) (p : Payload) : Type 0 where
  pub sum : fnv1a (payload_in body p) ≡ p.header.checksum
  pub room : has_room p.header.version kind (payload_in body p) ≡ true
  pub verified : IsTrue p.is_verified →
      in_grammar p.header.version kind (payload_in body p) ≡ true

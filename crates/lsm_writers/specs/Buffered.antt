-- The entries of a block that is being filled, and the bytes of its payload.
use Rattle.std.specs.Prelude.{◌≡◌, ℕ, ◌+◌, ◌≤◌, List, [], ◌++◌, length, drop, slice_range, Option}
use Rattle.std.specs.Prelude.{Some, None, unwrap_or}
use Rattle.std.specs.List.{AllByRecursion, flat_map}
use Rattle.std.specs.Option.{option_map}
use Rattle.sst_blocks.specs.declared.version.TableVersion.TheVariants.{V4}
use Rattle.sst_entries.specs.Entry.{Entry, entry}
use Rattle.sst_entries.specs.Strict.{last_of}
use Rattle.sst_blocks.specs.Format.{items_at}
use Rattle.sst_blocks.specs.Payload.{IsSpellable, spelled}
use Rattle.sst_blocks.specs.Reading.{entry_at}
use Rattle.lsm_writers.specs.declared.writer.block_buffer.Place.{Place}
use Rattle.lsm_writers.specs.declared.writer.block_buffer.Mark.{Mark}

-- the n entries decoded from a payload, after its count
unfoldable pub entries_behind : ℕ → List ℕ → List Entry
entries_behind n bytes = unwrap_or (items_at (entry_at V4) n (drop 4 bytes)) []

-- the encodings of the entries, one after another
abbrev pub body : List Entry → List ℕ
body es = flat_map (spelled V4) es

-- the entry whose key and value are at these offsets; the value runs to the end of the bytes
abbrev pub buffered_entry : List ℕ → Place → Entry
buffered_entry bytes p =
    entry (slice_range bytes p.key p.value) (drop p.value bytes) p.seqno p.value_type

-- the offsets of an optional entry are within the bytes
abbrev pub IsWithin : List ℕ → Option Place → Type 0
IsWithin bytes None = Unit {0}
IsWithin bytes (Some p) = (p.key ≤ p.value) × (p.value ≤ length bytes)

-- a checkpoint of these entries: their number, their length in bytes with the count, and the last
-- one
pub record IsMark (m : Mark) (es : List Entry) : Type 0 where
  pub count : m.len ≡ length es
  pub ends : m.end ≡ 4 + length (body es)
  pub within : IsWithin (body es) m.last
  pub last_is : last_of None es ≡ option_map (buffered_entry (body es)) m.last

-- the bytes are four bytes for a count, then the encodings of these entries
pub record AreBuffered (bytes : List ℕ) (m : Mark) (es : List Entry) : Type 0 where
  pub room : 4 ≤ length bytes
  pub bytes_are : drop 4 bytes ≡ body es
  pub fit : AllByRecursion (IsSpellable V4) es
  pub mark : IsMark m es

-- a checkpoint after some first entries of a list
pub record MarksFront (m : Mark) (es : List Entry) : Type 0 where
  pub front : List Entry
  pub rest : List Entry
  pub are : es ≡ front ++ rest
  pub mark : IsMark m front

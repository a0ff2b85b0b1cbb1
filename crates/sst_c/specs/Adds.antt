-- Writing entries in bulk.
use Rattle.std.specs.Prelude.{◌≡◌, ◌≢◌, ℕ, ◌+◌, ◌⊎◌, true, false, List, [], ◌∷◌, length, take, drop}
use Rattle.std.specs.Prelude.{IsSomeAnd, None, Some, is_some, map}
use Rattle.std.specs.List.{sum}
use Rattle.sst_entries.specs.Entry.{entry}
use Rattle.sst_entries.specs.declared.value_type.ValueType.{ValueType}
use Rattle.lsm_writers.specs.Writing.{Writing, may_be_written, written}
use Rattle.sst_c.specs.Writing.{TookEntry, decode_kind}
use Rattle.sst_c.specs.What.{files_held, writer_in}
use Rattle.sst_c.specs.declared.entries.EntryReport.{EntryReport}
use Rattle.sst_c.specs.declared.held.What.{What}

-- an entry to be written, with its kind as C passes it
pub record Row : Type 0 where
  pub kind : ℕ
  pub seqno : ℕ
  pub user_key : List ℕ
  pub value : List ℕ

-- the entry with this kind, sequence number, key and value
abbrev pub row_of : ℕ → ℕ → List ℕ → List ℕ → Row
row_of kind seqno k v = record { kind = kind; seqno = seqno; user_key = k; value = v }

-- the entry with this report, key and value
abbrev pub row : EntryReport → List ℕ → List ℕ → Row
row t k v = row_of t.kind t.seqno k v

-- the total length of an entry's key and value
abbrev pub reported_size : EntryReport → ℕ
reported_size t = t.key_len + t.value_len

-- the entries with these reports, whose keys and values are back to back in the bytes
abbrev pub rows_of_reports : List EntryReport → List ℕ → List Row
rows_of_reports [] bytes = []
rows_of_reports (t ∷ ts) bytes =
    row t (take t.key_len bytes) (take t.value_len (drop t.key_len bytes))
    ∷ rows_of_reports ts (drop (reported_size t) bytes)

-- `sst_writer_add` of an entry returns a code and takes a writer from w to v
pub record AddsOne (w : Writing) (r : Row) (code : ℕ) (v : Writing) : Type 0 where
  pub kind : decode_kind r.kind ≡ None → (code ≡ 105) × (v ≡ w)
  pub order : is_some (decode_kind r.kind) ≡ true
      → may_be_written (written w) r.user_key r.seqno ≡ false → (code ≡ 104) × (v ≡ w)
  pub took : (k : ValueType) → decode_kind r.kind ≡ Some k
      → may_be_written (written w) r.user_key r.seqno ≡ true
      → TookEntry w (entry r.user_key r.value r.seqno k) code v

-- writing these entries one after another succeeds and takes a writer from w to v
abbrev pub AddsAll : Writing → List Row → Writing → Type 0
AddsAll w [] v = w ≡ v
AddsAll w (r ∷ rs) v = (u : Writing) × AddsOne w r 0 u × AddsAll u rs v

-- a bulk write takes a writer from w to v and writes `count` entries. It writes all of them, or
-- those before the first that fails with this code
pub record AddsMany (w : Writing) (rows : List Row) (count code : ℕ) (v : Writing) : Type 0 where
  pub last : Writing
  pub added : AddsAll w (take count rows) last
  pub ends : ((count ≡ length rows) × (code ≡ 0) × (last ≡ v))
      ⊎ ((r : Row) × (rest : List Row) × (drop count rows ≡ r ∷ rest) × AddsOne last r code v
      × (code ≢ 0))

-- writing an entry through the held writer leads from the object a to b
pub record WritesEntry (r : Row) (a : What) (code : ℕ) (b : What) : Type 0 where
  pub kind : (w : Writing) → writer_in a ≡ Some w → decode_kind r.kind ≡ None
      → (code ≡ 105) × (b ≡ a)
  pub order : (w : Writing) → writer_in a ≡ Some w → is_some (decode_kind r.kind) ≡ true
      → may_be_written (written w) r.user_key r.seqno ≡ false → (code ≡ 104) × (b ≡ a)
  -- the writer takes an entry in order, or fails with the first fault and stays failed. A fault
  -- takes precedence over `OutOfMemory`
  pub took : (w : Writing) (k : ValueType) → writer_in a ≡ Some w → decode_kind r.kind ≡ Some k
      → may_be_written (written w) r.user_key r.seqno ≡ true
      → IsSomeAnd (writer_in b) (TookEntry w (entry r.user_key r.value r.seqno k) code)
  pub tables : files_held b ≡ files_held a

-- writing entries in bulk through the held writer leads from the object a to b, and counts them from
-- `none` on
pub record WritesMany (reports : List EntryReport) (bytes : List ℕ) (none count : ℕ) (a : What)
    (code : ℕ) (b : What) : Type 0 where
  pub other : writer_in a ≡ None → count ≡ none
  pub lengths : (w : Writing) → writer_in a ≡ Some w → sum (map reported_size reports) ≢ length bytes
      → (code ≡ 105) × (b ≡ a) × (count ≡ none)
  -- each entry is added as by `sst_writer_add`, up to the first that fails
  pub added : (w : Writing) → writer_in a ≡ Some w → sum (map reported_size reports) ≡ length bytes
      → IsSomeAnd (writer_in b) (AddsMany w (rows_of_reports reports bytes) count code)
  pub tables : files_held b ≡ files_held a

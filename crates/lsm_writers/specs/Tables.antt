-- The tables that a list is cut into, and the state of a writer of several tables.
use Rattle.std.specs.Prelude.{◌≡◌, ℕ, zero, suc, ◌+◌, ◌-◌, ◌^◌, ◌<◌, ◌≤◌, ◌==◌, ◌&&◌, Bool, true}
use Rattle.std.specs.Prelude.{false, nat_lt, nat_le, IsTrue, List, [], ◌∷◌, ◌++◌, length, take}
use Rattle.std.specs.Prelude.{drop, map, slice_index, Option, Some, None, unwrap_or, MatchOption}
use Rattle.std.specs.Prelude.{if◌then◌else◌}
use Rattle.std.specs.List.{AllByRecursion, filter}
use Rattle.std.specs.Option.{option_or, option_to_list}
use Rattle.sst_entries.specs.declared.error.Error.{Error}
use Rattle.sst_entries.specs.declared.error.Error.TheVariants.{TableIdsSpent, WriterFailed}
use Rattle.sst_entries.specs.Entry.{Entry}
use Rattle.sst_entries.specs.Key.{key_lt}
use Rattle.sst_entries.specs.Strict.{IsStrict, last_of}
use Rattle.sst_blocks.specs.declared.version.TableVersion.TheVariants.{V4}
use Rattle.sst_blocks.specs.declared.block_type.BlockType.TheVariants.{Data}
use Rattle.sst_blocks.specs.Block.{data_len, header_len, kind_tag}
use Rattle.sst_blocks.specs.Bounds.{data_block_bound_of}
use Rattle.sst_blocks.specs.Reading.{entries_in}
use Rattle.sst_blocks.specs.declared.table.label.Label.{Label}
use Rattle.sst_blocks.specs.declared.table.options.Options.{Options}
use Rattle.sst_blocks.specs.table.Chunks.{joined, is_full}
use Rattle.sst_blocks.specs.table.Facts.{starts_key}
use Rattle.sst_blocks.specs.table.Filters.{filtered_keys}
use Rattle.sst_blocks.specs.table.Fits.{EntryFits}
use Rattle.sst_blocks.specs.table.Index.{data_section, handles, last_entry}
use Rattle.sst_blocks.specs.table.Options.{default_options, label_of}
use Rattle.sst_blocks.specs.table.Parts.{parts_by}
use Rattle.lsm_writers.specs.section.Cutting.{waiting_by}
use Rattle.lsm_writers.specs.section.FilterRefusing.{filter_fault}
use Rattle.lsm_writers.specs.section.IndexRefusing.{index_fault}
use Rattle.lsm_writers.specs.declared.writer.FinishedTable.{FinishedTable}
use Rattle.lsm_writers.specs.Cut.{rest_chunk}
use Rattle.lsm_writers.specs.Writing.{IsFinished, IsFresh, IsTableWith, IsWritable, Writing}
use Rattle.lsm_writers.specs.Writing.{finish_fault, fresh_writing, gained, may_be_written}
use Rattle.lsm_writers.specs.Writing.{write_fault, written}

-- the full chunks of a list, which are cut while it is written
abbrev pub full_chunks : ℕ → List Entry → List (List Entry)
full_chunks size es = filter (is_full size) (parts_by (is_full size) es)

-- the total length of the blocks of the full chunks
abbrev pub cut_len : ℕ → List Entry → ℕ
cut_len size es = length (data_section V4 (full_chunks size es))

-- both lists are nonempty, and the last key of the first differs from the first key of the second
abbrev pub apart : List Entry → List Entry → Bool
apart [] b = false
apart (x ∷ a) [] = false
apart (x ∷ a) (y ∷ b) = starts_key (last_of None (x ∷ a)) y

-- a nonempty list; no proper prefix that ends a key has full blocks that reach the target
pub record IsCut (size : ℕ) (target : ℕ) (t : List Entry) : Type 0 where
  pub some : 0 < length t
  pub shortest : (a b : List Entry) → t ≡ a ++ b → apart a b ≡ true → cut_len size a < target

-- if another table follows, the table ends with a key and its full blocks reach the target
abbrev pub EndsCut : ℕ → ℕ → List Entry → List (List Entry) → Type 0
EndsCut size target t [] = Unit {0}
EndsCut size target t (u ∷ us) = (apart t u ≡ true) × (target ≤ cut_len size t)

-- each table but the last is cut at the first end of a key where its full blocks reach the target
abbrev pub AreCuts : ℕ → ℕ → List (List Entry) → Type 0
AreCuts size target [] = Unit {0}
AreCuts size target (t ∷ ts) =
    IsCut size target t × EndsCut size target t ts × AreCuts size target ts

-- the tables of a list: each is the shortest prefix of the rest that ends a key and reaches the
-- target. The last one is the rest
pub record AreTables (size : ℕ) (target : ℕ) (es : List Entry) (ts : List (List Entry)) : Type 0
  where
    pub whole : joined ts ≡ es
    pub each : AreCuts size target ts

-- a list can be cut into tables
pub record HasTables (size : ℕ) (target : ℕ) (es : List Entry) : Type 0 where
  pub tables : List (List Entry)
  pub are : AreTables size target es tables

-- every list can be cut into tables, for each block size and target
abbrev pub CutLaw : Type 0
CutLaw = (size target : ℕ) (es : List Entry) → HasTables size target es

-- the tables that a list is cut into are unique
abbrev pub OneCutLaw : Type 0
OneCutLaw = (size target : ℕ) (es : List Entry) (ts us : List (List Entry)) →
    AreTables size target es ts → AreTables size target es us → ts ≡ us

-- the keys of a table are below those of the next nonempty table
abbrev pub EndsBelow : List Entry → List (List Entry) → Type 0
EndsBelow t [] = Unit {0}
EndsBelow t ([] ∷ us) = EndsBelow t us
EndsBelow t ((e ∷ u) ∷ us) = key_lt (last_entry t).user_key e.user_key ≡ true

-- the keys of each table are below those of the next one
abbrev pub AreInKeyOrder : List (List Entry) → Type 0
AreInKeyOrder [] = Unit {0}
AreInKeyOrder (t ∷ ts) = EndsBelow t ts × AreInKeyOrder ts

-- ---- finished tables

-- the table info of the next table
abbrev pub next_label : Label → Label
next_label label = record label { table_id = label.table_id + 1 }

-- finished tables of these lists, with consecutive ids from that of the first table info
abbrev pub AreFinished : {A : Type 0} → Options → Label → List (List Entry)
    → List (FinishedTable A) → Type 0
AreFinished options label [] [] = Unit {0}
AreFinished options label [] (f ∷ fs) = ⊥
AreFinished options label (t ∷ ts) [] = ⊥
AreFinished options label (t ∷ ts) (f ∷ fs) =
    IsTableWith label options t f.id f.checksum.0 f.bytes
    × AreFinished options (next_label label) ts fs

-- the chunks decoded from the leading data blocks of some bytes, up to a block of another kind
unfoldable pub leading_chunks : ℕ → List ℕ → List (List Entry)
leading_chunks zero bytes = []
leading_chunks (suc n) bytes =
    if slice_index bytes 4 == kind_tag Data
    then unwrap_or (entries_in V4 (take (data_len bytes) (drop header_len bytes))) []
    ∷ leading_chunks n (drop (header_len + data_len bytes) bytes)
    else []

-- the list of a finished table, decoded from its bytes
abbrev pub list_in : List ℕ → List Entry
list_in bytes = joined (leading_chunks (length bytes) bytes)

-- the lists of finished tables
abbrev pub lists_in : {A : Type 0} → List (FinishedTable A) → List (List Entry)
lists_in {A = A} fs = map (λ (f : FinishedTable A). list_in f.bytes) fs

-- the finished tables, with the table of the writer appended if it has entries
pub record AddsTable {A : Type 0} (w : Writing) (fs gs : List (FinishedTable A)) : Type 0 where
  pub table : Option (FinishedTable A)
  pub added : gs ≡ fs ++ option_to_list table
  pub is : MatchOption table (written w ≡ []) (λ f. IsFinished w f.id f.checksum.0 f.bytes)

-- ---- ids

-- the next id, if there is one
abbrev pub next_id : ℕ → Option ℕ
next_id id = if nat_lt id (2 ^ 64 - 1) then Some (id + 1) else None

-- the counter after one id is drawn
abbrev pub drawn : Option ℕ → Option ℕ
drawn None = None
drawn (Some id) = next_id id

-- the fault of drawing an id
abbrev pub ids_fault : Option ℕ → Option Error
ids_fault None = Some TableIdsSpent
ids_fault (Some id) = None

-- ---- a writer of several tables

-- the state: target size, next id, lists of the finished tables, writer of the current table, and
-- whether a call failed
pub record TablesWriting : Type 0 where
  pub target : ℕ
  pub ids : Option ℕ
  pub tables : List (List Entry)
  pub present : Writing
  pub failed : Bool

-- the list written: the finished tables, then the current one; empty after an error
abbrev pub all_written : TablesWriting → List Entry
all_written m = if m.failed then [] else joined m.tables ++ written m.present

-- the lists of all tables, the current one last
abbrev pub tables_of : TablesWriting → List (List Entry)
tables_of m = m.tables ++ rest_chunk (written m.present)

-- no entry was written and no call failed
abbrev pub IsFreshRun : TablesWriting → Type 0
IsFreshRun m = (m.tables ≡ []) × IsFresh m.present × (m.failed ≡ false)

-- a writer without entries that has drawn its first id
abbrev pub new_tables : Option ℕ → ℕ → ℕ → ℕ → TablesWriting
new_tables ids target level moment = record {
  target = target;
  ids = drawn ids;
  tables = [];
  present = fresh_writing (label_of (unwrap_or ids 0) level moment) default_options;
  failed = false;
}

-- the table info of the n-th table before this one
abbrev pub label_before : ℕ → Label → Label
label_before n label = record label { table_id = label.table_id - n }

-- the table info of the first table
abbrev pub first_label : TablesWriting → Label
first_label m = label_before (length m.tables) m.present.label

-- the state with other options for all tables
abbrev pub with_options : TablesWriting → Options → TablesWriting
with_options m options = record m { present = record m.present { options = options } }

-- the second state has these options changed for all tables, and all else is the same
abbrev pub SetsOptionOfAll : TablesWriting → TablesWriting → (Options → Options) → Type 0
SetsOptionOfAll m n set = n ≡ with_options m (set m.present.options)

-- the next table is due: the entry is the first of its key, and the cut data blocks reach the
-- target
abbrev pub is_due : ℕ → Writing → Entry → Bool
is_due target w e =
    starts_key (last_of None (written w)) e && nat_le target (length (data_section V4 w.cut))

-- a writer of the next table, with the same level, timestamp and options
abbrev pub next_writing : Option ℕ → Writing → Writing
next_writing ids w =
    fresh_writing (record w.label { table_id = unwrap_or ids 0 }) w.options

-- the state after the current table is finished and the next one begun
abbrev pub rotated : TablesWriting → TablesWriting
rotated m = record m {
  ids = drawn m.ids;
  tables = tables_of m;
  present = next_writing m.ids m.present;
}

-- the ids, the finished tables and the writer after the next table is begun, if one is due
abbrev pub IsStanding : {A : Type 0} → Bool → Option ℕ → List (FinishedTable A) → Writing
    → Option ℕ → List (FinishedTable A) → Writing → Type 0
IsStanding false ids fs w ids' fs' w' = (ids' ≡ ids) × (fs' ≡ fs) × (w' ≡ w)
IsStanding true ids fs w ids' fs' w' =
    (ids' ≡ drawn ids) × AddsTable w fs fs' × (w' ≡ next_writing ids w)

-- the state before an entry is added, rotated if the next table is due
abbrev pub standing : TablesWriting → Entry → TablesWriting
standing m e = if is_due m.target m.present e then rotated m else m

-- the ids after an entry is written, whatever the result
abbrev pub ids_after : TablesWriting → Entry → Option ℕ
ids_after m e = if m.failed then m.ids else (standing m e).ids

-- the state after one more entry
abbrev pub took : TablesWriting → Entry → TablesWriting
took m e = let n = standing m e in record n { present = gained n.present e }

-- the first fault of drawing the next id, then finishing the current table
abbrev pub rotation_fault : Option ℕ → Writing → Option Error
rotation_fault ids w = option_or (ids_fault ids) (finish_fault w)

-- the first fault of the rotation, if the next table is due
abbrev pub turn_fault : ℕ → Option ℕ → Writing → Entry → Option Error
turn_fault target ids w e = if is_due target w e then rotation_fault ids w else None

-- the first fault of writing an entry: that of the rotation, then that of the entry
abbrev pub took_fault : TablesWriting → Entry → Option Error
took_fault m e =
    if m.failed then Some WriterFailed
    else option_or (turn_fault m.target m.ids m.present e) (write_fault (standing m e).present e)

-- the fault of writing an entry that takes precedence over `OutOfMemory`
abbrev pub early_refusal : TablesWriting → Entry → Option Error
early_refusal m e =
    if m.failed then Some WriterFailed
    else (if is_due m.target m.present e then ids_fault m.ids else write_fault m.present e)

-- the first fault of finishing
abbrev pub run_fault : TablesWriting → Option Error
run_fault m = if m.failed then Some WriterFailed else finish_fault m.present

-- ---- when `OutOfMemory` is the only possible error

-- the first fault of writing the index, then the filter, of the table of a list
abbrev pub table_fault : Options → List Entry → Option Error
table_fault options es =
    let cs = parts_by (is_full options.data_block_size) es in
    let keys = filtered_keys options.bloom_policy es in
    option_or (index_fault options.index_kind false (handles V4 cs))
    (filter_fault options.filter_kind options.bloom_policy keys)

-- the entries of a list after its last full chunk
abbrev pub filling : Options → List Entry → List Entry
filling options es = waiting_by (is_full options.data_block_size) es

-- an entry fits after the list of a table, with its block and the sections of the table
pub record FitsBehind (options : Options) (es : List Entry) (e : Entry) : Type 0 where
  pub entry : EntryFits V4 e
  pub block : data_block_bound_of (filling options es ++ e ∷ []) < 2 ^ 32
  pub sections : table_fault options es ≡ None

-- an unfailed writer with an id left, where the entry fits after the list of the current table
pub record HasRoomFor (m : TablesWriting) (e : Entry) : Type 0 where
  pub works : m.failed ≡ false
  pub left : m.ids ≡ None → ⊥
  pub fits : FitsBehind m.present.options (written m.present) e

-- ---- a list that is written whole

-- a table fits: its entries, its data blocks, and its index and filter sections
pub record TableFits (options : Options) (t : List Entry) : Type 0 where
  pub entries : AllByRecursion (EntryFits V4) t
  pub blocks : AllByRecursion (λ (c : List Entry). data_block_bound_of c < 2 ^ 32)
      (parts_by (is_full options.data_block_size) t)
  pub sections : table_fault options t ≡ None

-- the id of the first table: the second id at target 0, where no table has the first id
abbrev pub first_id : ℕ → ℕ → ℕ
first_id target first = if target == 0 then first + 1 else first

-- finishing has no fault, and the tables are these, with ids from this table info on
pub record HasTaken (ts : List (List Entry)) (label : Label) (m : TablesWriting) : Type 0 where
  pub finishes : run_fault m ≡ None
  pub tables : tables_of m ≡ ts
  pub first : (ts ≡ [] → ⊥) → first_label m ≡ label

-- each entry can follow those before it and has no fault; at the end the tables are these
abbrev pub Takes : List (List Entry) → Label → TablesWriting → List Entry → Type 0
Takes ts label m [] = HasTaken ts label m
Takes ts label m (e ∷ es) =
    IsTrue (may_be_written (all_written m) e.user_key e.seqno) × (took_fault m e ≡ None)
    × Takes ts label (took m e) es

-- a writable list is written whole as its tables if each fits and enough ids remain
abbrev pub TakesLaw : Type 0
TakesLaw = (first target level moment : ℕ) (options : Options) (es : List Entry)
    (ts : List (List Entry)) → IsWritable es → AreTables options.data_block_size target es ts →
    AllByRecursion (TableFits options) ts → first_id target first + length ts ≤ 2 ^ 64 →
    Takes ts (label_of (first_id target first) level moment)
    (with_options (new_tables (Some first) target level moment) options) es

-- all entries have one key
abbrev pub HasOneKey : List Entry → Type 0
HasOneKey [] = Unit {0}
HasOneKey (e ∷ es) = AllByRecursion (λ (x : Entry). x.user_key ≡ e.user_key) es

-- at target 0 each table of a strict list has one key, and the tables are in key order
abbrev pub OneKeyLaw : Type 0
OneKeyLaw = (size : ℕ) (es : List Entry) (ts : List (List Entry)) → IsStrict es →
    AreTables size 0 es ts → AllByRecursion HasOneKey ts × AreInKeyOrder ts

-- ---- the invariant of a writer of several tables between its calls

-- the state after some more entries
abbrev pub gained_all : Writing → List Entry → Writing
gained_all w [] = w
gained_all w (e ∷ es) = gained_all (gained w e) es

-- The current writer has exactly its entries. All lists are strict and cut by the target. The next id
-- follows that of its table.
pub record GoesOn (target : ℕ) (ids : Option ℕ) (ts : List (List Entry)) (w : Writing) : Type 0
  where
    pub present : w ≡ gained_all (fresh_writing w.label w.options) (written w)
    pub strict : IsStrict (joined ts ++ written w)
    pub cuts : AreCuts w.options.data_block_size target (ts ++ rest_chunk (written w))
    pub next : ids ≡ next_id w.label.table_id
    pub begun : written w ≡ [] → ts ≡ []

-- The finished tables store their lists, with consecutive ids below that of the table info.
pub record AreHeld {A : Type 0} (options : Options) (label : Label) (fs : List (FinishedTable A))
    : Type 0 where
  pub finished : AreFinished options (label_before (length fs) label) (lists_in fs) fs
  pub few : length fs ≤ label.table_id

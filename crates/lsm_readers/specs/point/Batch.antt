-- Point reads of some queries, over any bytes, in any order.
use Rattle.std.specs.Prelude.{◌≡◌, ℕ, ◌-◌, ◌<◌, Bool, true, false, List, length, map}
use Rattle.std.specs.Prelude.{slice_index_or, IfSome, Option, None, Result, Ok}
use Rattle.std.specs.List.{All}
use Rattle.std.specs.Option.{option_map}
use Rattle.sst_blocks.specs.declared.entry_place.EntryPlace.{EntryPlace}
use Rattle.sst_blocks.specs.Asked.{result_map}
use Rattle.sst_blocks.specs.EntryPlace.{entry_placed}
use Rattle.sst_blocks.specs.Sections.{body_of}
use Rattle.sst_entries.specs.declared.error.Error.{Error}
use Rattle.sst_entries.specs.Entry.{Entry}
use Rattle.lsm_readers.specs.declared.batch.Lookup.{Lookup}
use Rattle.lsm_readers.specs.declared.inner.Inner.{Inner}
use Rattle.lsm_readers.specs.declared.many.Query.{Query}
use Rattle.lsm_readers.specs.point.Answer.{admitted_handle, answer}
use Rattle.lsm_readers.specs.point.Parts.{Parts}
use Rattle.lsm_readers.specs.point.Table.{parts_of}

-- The result of a point read for a query.
abbrev pub query_result : {A : Type 0} → List ℕ → ℕ → Parts → Query A → Result (Option Entry) Error
query_result body g parts q = (answer body g parts q.key q.seqno).returned

-- The same, in a table of these bytes.
abbrev pub query_in : {A : Type 0} → List ℕ → Inner A → Query A → Result (Option Entry) Error
query_in bytes inner = query_result (body_of bytes) inner.global_seqno (parts_of inner)

-- A lookup of the query at an index of the list: its point read needs the block of this handle.
pub record IsLookup {A : Type 0} (body : List ℕ) (g : ℕ) (parts : Parts) (queries : List (Query A))
    (l : Lookup) : Type 0 where
  pub within : l.at < length queries
  pub returned : (q : Query A) → q ≡ slice_index_or queries l.at q →
      (admitted_handle body parts q.key (q.seqno - g)).returned ≡ Ok l.handle

-- The entries of what was found.
abbrev pub entries_by : {Y : Type 0} → (Y → Entry) → List (Option Y) → List (Option Entry)
entries_by entry found = map (option_map entry) found

-- The entries at some positions in a table's bytes.
abbrev pub entries_placed : List ℕ → List (Option EntryPlace) → List (Option Entry)
entries_placed bytes places = entries_by (entry_placed bytes) places

-- The result of a read that returns a position, with the entry there.
abbrev pub placed_entry : List ℕ → Result (Option EntryPlace) Error → Result (Option Entry) Error
placed_entry bytes r = result_map (option_map (entry_placed bytes)) r

-- The queries flagged as done were answered: the entries of what was found are their results, and
-- are within the bytes.
pub record AreFound {X Y : Type 0} (entry : Y → Entry) (is_within : Y → Type 0)
    (f : X → Result (Option Entry) Error) (queries : List X) (found : List (Option Y))
    (done : List Bool) : Type 0 where
  pub found_len : length found ≡ length queries
  pub done_len : length done ≡ length queries
  pub returned : (k : ℕ) (q : X) → slice_index_or done k false ≡ true →
      q ≡ slice_index_or queries k q → f q ≡ Ok (option_map entry (slice_index_or found k None))
  pub within : All (λ one. IfSome one is_within) found

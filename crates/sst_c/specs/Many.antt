-- Point reads of many keys as reported to C.
use Rattle.std.specs.Prelude.{◌≡◌, ◌≢◌, ◌<◌, ◌≤◌, ℕ, ◌⊎◌, List, [], ◌∷◌, map, take, drop, Option}
use Rattle.std.specs.Prelude.{Some, None, Result, Ok, Err, length, slice_get, true}
use Rattle.std.specs.List.{sum}
use Rattle.std.specs.Option.{option_flatten, option_map_or}
use Rattle.std.specs.Global.{Global}
use Rattle.sst_entries.specs.Entry.{Entry}
use Rattle.sst_entries.specs.Error.{Gives, number_of}
use Rattle.sst_entries.specs.Point.{point}
use Rattle.sst_entries.specs.declared.error.Error.{Error}
use Rattle.lsm_iters.specs.Lift.{lift}
use Rattle.lsm_readers.specs.Stored.{StoresList}
use Rattle.lsm_readers.specs.point.Many.{many_results}
use Rattle.lsm_readers.specs.point.Table.{OpenTable}
use Rattle.lsm_readers.specs.declared.many.Query.{Query}
use Rattle.sst_c.specs.Copies.{copy_code, laid_over, lend_code}
use Rattle.sst_c.specs.Reported.{entry_facts}
use Rattle.sst_c.specs.What.{is_table, many_in}
use Rattle.sst_c.specs.declared.entries.EntryReport.{EntryReport}
use Rattle.sst_c.specs.declared.held.Held.{Held}
use Rattle.sst_c.specs.declared.held.What.{What}
use Rattle.sst_c.specs.declared.held.What.TheVariants.{Table}

-- the keys of these lengths that are back to back in the bytes
abbrev pub keys_cut : List ℕ → List ℕ → List (List ℕ)
keys_cut [] bytes = []
keys_cut (n ∷ ns) bytes = take n bytes ∷ keys_cut ns (drop n bytes)

-- the query of a key at a sequence number
abbrev pub query_at : ℕ → List ℕ → Query Global
query_at seqno key = record { key = key; seqno = seqno }

-- the queries of these keys
abbrev pub queries_for : List ℕ → List ℕ → ℕ → List (Query Global)
queries_for bytes lens seqno = map (query_at seqno) (keys_cut lens bytes)

-- the result of reads of many keys
abbrev pub ManyResult : Type 0
ManyResult = Result (List (Option Entry)) Error

-- reads of many keys return this result, or `OutOfMemory`
abbrev pub GivesMany : ManyResult → ManyResult → Type 0
GivesMany = Gives (λ (found : List (Option Entry)). found)

-- each query's newest visible version in a list, global sequence number applied
abbrev pub points_asked : List Entry → ℕ → List (Query Global) → List (Option Entry)
points_asked es g queries = map (λ q. point (lift es g) q.key q.seqno) queries

-- the same for the keys of these lengths, which are back to back in the bytes
abbrev pub points_of : List Entry → ℕ → List ℕ → List ℕ → ℕ → List (Option Entry)
points_of es g keys lens seqno = map (λ k. point (lift es g) k seqno) (keys_cut lens keys)

-- reads of many keys return 0, keep the results and report each, or return the first error code.
-- They return 1 if out of memory
unfoldable pub AnswersMany : ℕ → Option (List (Option Entry)) → List EntryReport → List EntryReport
    → Result (List (Option Entry)) Error → Type 0
AnswersMany code kept old new (Ok found) = (code ≡ 1)
    ⊎ ((code ≡ 0) × (kept ≡ Some found) × (new ≡ laid_over (map entry_facts found) old))
AnswersMany code kept old new (Err e) = (code ≡ 1) ⊎ (code ≡ number_of e)

-- point reads of a table for the keys of these lengths, which are back to back in the bytes: they
-- are kept and reported, or fail
pub record AnswersKeys (t : OpenTable) (keys lens : List ℕ) (seqno code : ℕ)
    (kept : Option (List (Option Entry))) (old new : List EntryReport) : Type 0 where
  -- for any bytes, it is the result of each read, or the first error
  pub returned : AnswersMany code kept old new (many_results t (queries_for keys lens seqno))
  -- for bytes that store a list, it is each key's newest visible version, global seqno applied
  pub list : (es : List Entry) → StoresList t.bytes es
      → AnswersMany code kept old new (Ok (points_of es t.global_seqno keys lens seqno))

-- the results that a handle holds, if it holds those of many keys
abbrev pub many_kept : Option Held → Option (List (Option Entry))
many_kept None = None
many_kept (Some h) = many_in h.what

-- if the object is a table, there are reports for all keys, and their lengths add up: point reads for
-- the keys are kept in a handle and reported, or fail
pub record AnswersHeld (w : What) (keys lens : List ℕ) (seqno code : ℕ) (after : Option Held)
    (old new : List EntryReport) : Type 0 where
  pub answers : (t : OpenTable) → w ≡ Table t → sum lens ≡ length keys → length lens ≤ length old
      → AnswersKeys t keys lens seqno code (many_kept after) old new

-- the same. The code is 105 if the lengths do not add up, and 103 if there are fewer reports than keys
pub record GetsMany (w : What) (keys lens : List ℕ) (seqno code : ℕ) (after : Option Held)
    (old new : List EntryReport) : Type 0 where
  pub lengths : is_table w ≡ true → sum lens ≢ length keys → code ≡ 105
  pub room : is_table w ≡ true → sum lens ≡ length keys → length old < length lens → code ≡ 103
  -- else it is the result of each read, or the first error
  pub returned : AnswersHeld w keys lens seqno code after old new

-- the entry found for the key at an index
abbrev pub answer_at : Option (List (Option Entry)) → ℕ → Option Entry
answer_at None index = None
answer_at (Some found) index = option_flatten (slice_get found index)

-- the code of a call by index: that of the result there, 105 if there is none, 102 if the handle
-- holds no results
abbrev pub at_place : Option (List (Option Entry)) → ℕ → (Option Entry → ℕ) → ℕ
at_place None index code = 102
at_place (Some found) index code = option_map_or code (slice_get found index) 105

-- the code of borrowing the entry at an index
abbrev pub lend_at_code : Option (List (Option Entry)) → ℕ → ℕ
lend_at_code many index = at_place many index lend_code

-- the code of copying the entry at an index
abbrev pub copy_at_code : Option (List (Option Entry)) → ℕ → List ℕ → List ℕ → ℕ
copy_at_code many index key value = at_place many index (λ found. copy_code found key value)

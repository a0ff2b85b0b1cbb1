-- Tables of the results of a source, which are yielded one by one.
use Rattle.std.specs.Prelude.{◌≡◌, ◌⊎◌, ◌&&◌, ◌||◌, ℕ, ◌+◌, ◌≤◌, Bool, true, false, List, []}
use Rattle.std.specs.Prelude.{◌∷◌, ◌++◌, length, take, Option, None, Some, Result, Ok, Err}
use Rattle.std.specs.Prelude.{MatchOption, if◌then◌else◌}
use Rattle.std.specs.Option.{option_map}
use Rattle.sst_entries.specs.Entry.{Entry}
use Rattle.sst_entries.specs.Error.{is_memory}
use Rattle.sst_entries.specs.Stream.{CanYield, YieldsExactly, answer_stops, nowhere, ok_results}
use Rattle.sst_entries.specs.declared.error.Error.{Error}
use Rattle.lsm_writers.specs.declared.table_stream.TableStream.{TableStream}
use Rattle.lsm_writers.specs.declared.table_stream.TableStreamError.{TableStreamError}
use Rattle.lsm_writers.specs.declared.table_stream.TableStreamError.TheVariants.{Failed, OutOfOrder}
use Rattle.lsm_writers.specs.declared.writer.FinishedTable.{FinishedTable}
use Rattle.lsm_writers.specs.Taken.{AreTakenFrom, IsWriting, tables_left}
use Rattle.lsm_writers.specs.Tables.{AreFinished, AreInKeyOrder, AreTables, IsFreshRun}
use Rattle.lsm_writers.specs.Tables.{TablesWriting, all_written, first_label, ids_after}
use Rattle.lsm_writers.specs.Tables.{run_fault, tables_of, took, took_fault}
use Rattle.lsm_writers.specs.Writing.{IsWritable, may_be_written}

-- the entries before the first error
abbrev pub entries_before : List (Result Entry Error) → List Entry
entries_before [] = []
entries_before (Ok e ∷ rs) = e ∷ entries_before rs
entries_before (Err f ∷ rs) = []

-- a writer after it took these entries, one after another
abbrev pub took_each : TablesWriting → List Entry → TablesWriting
took_each w [] = w
took_each w (e ∷ es) = took_each (took w e) es

-- none of these entries has a fault
abbrev pub NoneFails : TablesWriting → List Entry → Type 0
NoneFails w [] = Unit {0}
NoneFails w (e ∷ es) = (took_fault w e ≡ None) × NoneFails (took w e) es

-- this entry may be written after those
abbrev pub may_append : List Entry → Entry → Bool
may_append es e = may_be_written es e.user_key e.seqno

-- Below, a writer m took the entries es, and the source yields these results next.

-- the writer is called next: to write an entry that may follow, or at the end to finish
abbrev pub calls_writer : List Entry → List (Result Entry Error) → Bool
calls_writer es [] = true
calls_writer es (Ok e ∷ rs) = may_append es e
calls_writer es (Err f ∷ rs) = false

-- the error of the next result: the entry may not follow, or the error of writing it; or that of the
-- source; or at the end that of finishing
abbrev pub next_fault : List Entry → TablesWriting → List (Result Entry Error)
    → Option TableStreamError
next_fault es m [] = option_map (λ f. Failed f) (run_fault m)
next_fault es m (Ok e ∷ rs) =
    if may_append es e then option_map (λ f. Failed f) (took_fault m e) else Some OutOfOrder
next_fault es m (Err f ∷ rs) = Some (Failed f)

-- the finished tables after that error
abbrev pub next_left : List Entry → TablesWriting → List (Result Entry Error) → List (List Entry)
next_left es m [] = m.tables
next_left es m (Ok e ∷ rs) = if may_append es e then tables_left m e else m.tables
next_left es m (Err f ∷ rs) = m.tables

-- the id counter after that error
abbrev pub next_ids : List Entry → TablesWriting → List (Result Entry Error) → Option ℕ
next_ids es m [] = m.ids
next_ids es m (Ok e ∷ rs) = if may_append es e then ids_after m e else m.ids
next_ids es m (Err f ∷ rs) = m.ids

-- an error may come in place of the one of the next result: an error that stops the source, and
-- `OutOfMemory` if the writer is called
abbrev pub may_replace : (Error → Bool) → Bool → TableStreamError → Bool
may_replace stops called OutOfOrder = false
may_replace stops called (Failed f) = stops f || (called && is_memory f)

-- finished tables of the first tables of a list
abbrev pub AreFirst : {A : Type 0} → TablesWriting → List Entry → List (FinishedTable A) → Type 0
AreFirst m es gs = (ts : List (List Entry)) →
    AreTables m.present.options.data_block_size m.target es ts →
    AreFinished m.present.options (first_label m) (take (length gs) ts) gs

-- All results are entries that can be written. The tables are those that `finish` returns after
-- them, and the counter is that of the writer.
pub record AreAll {A : Type 0} (w : TablesWriting) (rs : List (Result Entry Error))
    (gs : List (FinishedTable A)) (left : Option ℕ) : Type 0 where
  pub list : List Entry
  pub whole : rs ≡ ok_results list
  pub writable : IsWritable list
  pub none : NoneFails w list
  pub cut : let m = took_each w list in
      AreTables m.present.options.data_block_size m.target list (tables_of m)
  pub order : AreInKeyOrder (tables_of (took_each w list))
  pub finished : let m = took_each w list in
      AreFinished m.present.options (first_label m) (tables_of m) gs
  pub left_is : left ≡ (took_each w list).ids

-- After entries that were written comes this error. The counter is that of the writer.
pub record EndsInError {A : Type 0} (stops : Error → Bool) (w : TablesWriting)
    (rs : List (Result Entry Error)) (gs : List (FinishedTable A)) (left : Option ℕ)
    (e : TableStreamError) : Type 0 where
  pub front : List Entry
  pub rest : List (Result Entry Error)
  pub whole : rs ≡ ok_results front ++ rest
  pub writable : IsWritable front
  pub none : NoneFails w front
  -- The tables are all that were finished before it. They are the first ones of all entries before
  -- the first error of the source, also if the later ones are out of order.
  pub first : AreFirst (took_each w front) (entries_before rs) gs
  pub kept : length (took_each w front).tables ≤ length gs
  -- the call that failed may have finished a table and drawn an id
  pub most : length gs ≤ length (next_left front (took_each w front) rest)
  pub ids : (left ≡ (took_each w front).ids) ⊎ (left ≡ next_ids front (took_each w front) rest)
  -- Except for errors that may replace it: the error is that of the next result, a table that was
  -- finished by the call that failed is among the tables, and an id that it drew stays drawn.
  pub fault : may_replace stops (calls_writer front rest) e ≡ false →
      next_fault front (took_each w front) rest ≡ Some e
  pub count : may_replace stops (calls_writer front rest) e ≡ false →
      length gs ≡ length (next_left front (took_each w front) rest)
  pub left_is : may_replace stops (calls_writer front rest) e ≡ false →
      left ≡ next_ids front (took_each w front) rest

-- ---- a stream between its calls

-- a writer took these entries without a fault, and its finished tables were all taken
pub record Took {A : Type 0} (w : TablesWriting) (es : List Entry) (gs : List (FinishedTable A))
    (n : TablesWriting) : Type 0 where
  pub writable : IsWritable es
  pub none : NoneFails w es
  pub listed : all_written (took_each w es) ≡ es
  pub writing : IsWriting (took_each w es)
  pub taken : AreTakenFrom (took_each w es) gs n
  pub left : n.tables ≡ []

-- it took the first of these results, which the source yielded; the source yields the others, up to
-- an error that stops it
pub record TookFrom {S A : Type 0} (stops : Error → Bool)
    (next : S → Option (Result Entry Error) → S → Type 0) (w : TablesWriting)
    (rs : List (Result Entry Error)) (gs : List (FinishedTable A)) (s : S) (n : TablesWriting)
    : Type 0 where
  pub front : List Entry
  pub rest : List (Result Entry Error)
  pub whole : rs ≡ ok_results front ++ rest
  pub took : Took w front gs n
  pub yields : YieldsExactly (answer_stops stops) next nowhere s rest

-- a state after these tables of the results that the source yields to a writer
abbrev pub IsAfter : {S A : Type 0} → (Error → Bool) → (S → Option (Result Entry Error) → S → Type 0)
    → TablesWriting → List (Result Entry Error) → List (FinishedTable A) → TableStream S A → Type 0
IsAfter stops next w rs gs s = MatchOption s.writer
    (MatchOption s.error (AreAll w rs gs s.ids) (EndsInError stops w rs gs s.ids))
    (TookFrom stops next w rs gs s.source)

-- a new stream is before the first table, for any results of the source
abbrev pub Starts : {S A : Type 0} → (S → Option (Result Entry Error) → S → Type 0) → S
    → TablesWriting → TableStream S A → Type 0
Starts next source w s =
    (stops : Error → Bool) (rs : List (Result Entry Error)) → IsFreshRun w →
    YieldsExactly (answer_stops stops) next nowhere source rs → IsAfter stops next w rs [] s

-- the item of a call after these tables: the next table; an error, if it comes next; or `None`, if
-- these are all tables
abbrev pub YieldsAfter : {S A : Type 0} → (Error → Bool)
    → (S → Option (Result Entry Error) → S → Type 0) → TablesWriting → List (Result Entry Error)
    → List (FinishedTable A) → Option (Result (FinishedTable A) TableStreamError) → TableStream S A
    → Type 0
YieldsAfter stops next w rs gs None t = AreAll w rs gs t.ids
YieldsAfter stops next w rs gs (Some (Ok f)) t = IsAfter stops next w rs (gs ++ f ∷ []) t
YieldsAfter stops next w rs gs (Some (Err e)) t = EndsInError stops w rs gs t.ids e

-- a stream that yields only `None`
abbrev pub IsExhausted : {S A : Type 0} → TableStream S A → Type 0
IsExhausted s = (s.writer ≡ None) × (s.error ≡ None)

-- an error or `None` is the last item
abbrev pub EndsAfter : {S A : Type 0} → Option (Result (FinishedTable A) TableStreamError)
    → TableStream S A → Type 0
EndsAfter None t = IsExhausted t
EndsAfter (Some (Ok f)) t = Unit {0}
EndsAfter (Some (Err e)) t = IsExhausted t

-- one call, for any results of the source
pub record YieldsNextTable {S A : Type 0} (next : S → Option (Result Entry Error) → S → Type 0)
    (s : TableStream S A) (r : Option (Result (FinishedTable A) TableStreamError))
    (t : TableStream S A) : Type 0 where
  pub steps : (stops : Error → Bool) (w : TablesWriting) (rs : List (Result Entry Error))
      (gs : List (FinishedTable A)) → IsAfter stops next w rs gs s →
      YieldsAfter stops next w rs gs r t
  pub over : IsExhausted s → (r ≡ None) × IsExhausted t
  pub ends : EndsAfter r t
  -- the counter is that of the writer
  pub ids : MatchOption t.writer (Unit {0}) (λ n. t.ids ≡ n.ids)

-- ---- when it may be called

-- the source can be polled, and every finished table of the writer was taken
pub record CanTake {S : Type 0} (next : S → Option (Result Entry Error) → S → Type 0)
    (can : S → Type 0) (s : S) (n : TablesWriting) : Type 0 where
  pub asks : CanYield next nowhere can can s
  pub taken : n.tables ≡ []

-- the next table may be polled
abbrev pub CanPoll : {S A : Type 0} → (S → Option (Result Entry Error) → S → Type 0)
    → (S → Type 0) → TableStream S A → Type 0
CanPoll next can s = MatchOption s.writer (Unit {0})
    (λ n. CanTake next can s.source n × (s.error ≡ None))

-- a new stream may be polled if the source can
abbrev pub StartsReady : {S A : Type 0} → (S → Option (Result Entry Error) → S → Type 0)
    → (S → Type 0) → S → TablesWriting → TableStream S A → Type 0
StartsReady next can source w s =
    IsFreshRun w → CanYield next nowhere can can source → CanPoll next can s

-- an upper bound on the number of items that remain
abbrev pub most_items : Option TablesWriting → Option TableStreamError → ℕ → ℕ
most_items (Some n) error left = left + 2
most_items None (Some e) left = 1
most_items None None left = 0

abbrev pub items_left : {S A : Type 0} → (S → ℕ) → TableStream S A → ℕ
items_left left s = most_items s.writer s.error (left s.source)

-- ---- the parts of a call

-- all results are entries, and the writer took them
pub record TookSource {A : Type 0} (w : TablesWriting) (rs : List (Result Entry Error))
    (gs : List (FinishedTable A)) (n : TablesWriting) : Type 0 where
  pub list : List Entry
  pub whole : rs ≡ ok_results list
  pub took : Took w list gs n

-- after an error: the stream ends with it, after these tables and the one that is finished, if any
pub record EndsWithError {A : Type 0} (stops : Error → Bool) (w : TablesWriting)
    (rs : List (Result Entry Error)) (gs : List (FinishedTable A)) (e : TableStreamError)
    (n : TablesWriting) : Type 0 where
  pub none : n.tables ≡ [] → EndsInError stops w rs gs n.ids e
  pub some : (f : FinishedTable A) →
      AreFinished n.present.options (first_label n) (take 1 n.tables) (f ∷ []) →
      EndsInError stops w rs (gs ++ f ∷ []) n.ids e

-- the result of writing until a table is finished: the table, the end of the source, or an error
abbrev pub WritesNextTable : {S A : Type 0} → (Error → Bool)
    → (S → Option (Result Entry Error) → S → Type 0) → TablesWriting → List (Result Entry Error)
    → List (FinishedTable A) → Result (Option (FinishedTable A)) TableStreamError → S
    → TablesWriting → Type 0
WritesNextTable stops next w rs gs (Ok (Some f)) t v = TookFrom stops next w rs (gs ++ f ∷ []) t v
WritesNextTable stops next w rs gs (Ok None) t v = TookSource w rs gs v
WritesNextTable stops next w rs gs (Err e) t v = EndsWithError stops w rs gs e v

abbrev pub WritesUntil : {S A : Type 0} → (S → Option (Result Entry Error) → S → Type 0) → S
    → TablesWriting → Result (Option (FinishedTable A)) TableStreamError → S → TablesWriting
    → Type 0
WritesUntil {A = A} next s n r t v =
    (stops : Error → Bool) (w : TablesWriting) (rs : List (Result Entry Error))
    (gs : List (FinishedTable A)) → TookFrom stops next w rs gs s n →
    WritesNextTable stops next w rs gs r t v

-- the result of finishing: the last table if there is one, or an error
abbrev pub FinishesLast : {A : Type 0} → TablesWriting → List (Result Entry Error)
    → List (FinishedTable A) → Option ℕ → Option (Result (FinishedTable A) TableStreamError)
    → Type 0
FinishesLast w rs gs left None = AreAll w rs gs left
FinishesLast w rs gs left (Some (Ok f)) = AreAll w rs (gs ++ f ∷ []) left
FinishesLast w rs gs left (Some (Err e)) = (stops : Error → Bool) →
    EndsInError stops w rs gs left e

abbrev pub EndsAll : {A : Type 0} → Option TablesWriting
    → Option (Result (FinishedTable A) TableStreamError) → Type 0
EndsAll {A = A} writer r =
    (w n : TablesWriting) (rs : List (Result Entry Error)) (gs : List (FinishedTable A)) →
    writer ≡ Some n → TookSource w rs gs n → FinishesLast w rs gs n.ids r

-- the result after an error: the table that is finished, or this very error
abbrev pub Stops : {A : Type 0} → (Error → Bool) → TablesWriting → List (Result Entry Error)
    → List (FinishedTable A) → Option ℕ → TableStreamError
    → Option (Result (FinishedTable A) TableStreamError) → Type 0
Stops stops w rs gs left error None = ⊥
Stops stops w rs gs left error (Some (Ok f)) = EndsInError stops w rs (gs ++ f ∷ []) left error
Stops stops w rs gs left error (Some (Err e)) = EndsInError stops w rs gs left error

abbrev pub StopsAfter : {A : Type 0} → Option TablesWriting → TableStreamError
    → Option (Result (FinishedTable A) TableStreamError) → Type 0
StopsAfter {A = A} writer error r =
    (stops : Error → Bool) (w n : TablesWriting) (rs : List (Result Entry Error))
    (gs : List (FinishedTable A)) → writer ≡ Some n → EndsWithError stops w rs gs error n →
    Stops stops w rs gs n.ids error r

-- the error is left for the next call exactly if a table comes first, and else it is the item
abbrev pub LeavesError : {A : Type 0} → Option (Result (FinishedTable A) TableStreamError)
    → TableStreamError → Option TableStreamError → Option TableStreamError → Type 0
LeavesError None error old new = new ≡ old
LeavesError (Some (Ok f)) error old new = new ≡ Some error
LeavesError (Some (Err e)) error old new = (e ≡ error) × (new ≡ old)

-- Writing several tables as C sees it.
use Rattle.std.specs.Prelude.{◌≡◌, ◌⊎◌, ◌≤◌, ◌∷◌, ◌++◌, [], ℕ, false, true, length, take, IfErr, IfOk}
use Rattle.std.specs.Prelude.{IsSomeAnd, List, None, OnErr, OnOk, Option, Some, is_some, unwrap_or}
use Rattle.std.specs.Prelude.{Result, Ok, Err, ◌<◌}
use Rattle.std.specs.Global.{Global}
use Rattle.std.specs.Option.{option_to_list}
use Rattle.std.specs.Vec.{vec_capacity, vec_len}
use Rattle.std.specs.declared.vec.Vec.{Vec}
use Rattle.sst_entries.specs.Entry.{Entry, entry}
use Rattle.sst_entries.specs.Error.{Faults, FaultsFirst, number_of}
use Rattle.sst_entries.specs.Strict.{IsStrict, last_of}
use Rattle.sst_entries.specs.declared.error.Error.{Error}
use Rattle.sst_entries.specs.declared.error.Error.TheVariants.{OutOfMemory}
use Rattle.sst_entries.specs.declared.value_type.ValueType.{ValueType}
use Rattle.sst_blocks.specs.table.Failed.{failed_fault}
use Rattle.lsm_writers.specs.Taken.{IsLeft, taken}
use Rattle.lsm_writers.specs.Tables.{AreFinished, AreInKeyOrder, AreTables, HasRoomFor, TablesWriting}
use Rattle.lsm_writers.specs.Tables.{all_written, early_refusal, first_label, ids_after, run_fault}
use Rattle.lsm_writers.specs.Tables.{table_fault, tables_of, took, took_fault}
use Rattle.lsm_writers.specs.Writing.{may_be_written, written}
use Rattle.lsm_writers.specs.declared.writer.FinishedTable.{FinishedTable}
use Rattle.sst_c.specs.Adds.{Row}
use Rattle.sst_c.specs.Codes.{result_code}
use Rattle.sst_c.specs.Reported.{found_by}
use Rattle.sst_c.specs.What.{HoldsFiles, multi_writer_in}
use Rattle.sst_c.specs.Writing.{decode_kind}
use Rattle.sst_c.specs.declared.held.Held.{Held}
use Rattle.sst_c.specs.declared.held.What.{What}
use Rattle.sst_c.specs.declared.held.What.TheVariants.{Files as FilesOf, MultiWriter as MultiWriterOf}

-- a call writes through a handle that holds a writer of several tables. If the handle is closed or
-- holds none, nothing is written. The entry found by the last read is unchanged
pub record ThroughMultiWriter (handle after : Option Held) (code : ℕ) : Type 0 where
  pub shut : handle ≡ None → (code ≡ 100) × (after ≡ None)
  pub other : (h : Held) → handle ≡ Some h → multi_writer_in h.what ≡ None
      → (code ≡ 102) × IsSomeAnd after (λ k. k.what ≡ h.what)
  pub found : (h : Held) → handle ≡ Some h → IsSomeAnd after (λ k. found_by k ≡ found_by h)

-- ---- adding an entry

-- one call of the library writes an entry that is in order, and takes the writer from w to v
pub record WritesToTables (w : TablesWriting) (e : Entry) (r : Result (Unit {0}) Error)
    (v : TablesWriting) : Type 0 where
  pub ok : OnOk r (v ≡ took w e)
  pub listed : OnOk r (all_written v ≡ all_written w ++ e ∷ [])
  pub refused : Faults r (took_fault w e)
  -- these errors take precedence over `OutOfMemory`
  pub first : FaultsFirst r (early_refusal w e)
  pub memory : took_fault w e ≡ None → IfErr r (λ error. error ≡ OutOfMemory)
  pub room : HasRoomFor w e → IfErr r (λ error. error ≡ OutOfMemory)
  pub failed : OnErr r (v.failed ≡ true)
  pub ids : v.ids ≡ ids_after w e
  pub kept : w.failed ≡ true → v ≡ w
  pub left : IfErr r (λ error. IsLeft w e error v)

-- the call reports some result of that call
abbrev pub ReportsWriting : TablesWriting → Entry → ℕ → TablesWriting → Type 0
ReportsWriting w e code v =
    (r : Result (Unit {0}) Error) × WritesToTables w e r v × (code ≡ result_code r)

-- `sst_multi_writer_add` of an entry returns a code and takes a writer from w to v
pub record AddsToTables (w : TablesWriting) (r : Row) (code : ℕ) (v : TablesWriting) : Type 0 where
  pub kind : decode_kind r.kind ≡ None → (code ≡ 105) × (v ≡ w)
  pub order : is_some (decode_kind r.kind) ≡ true
      → may_be_written (all_written w) r.user_key r.seqno ≡ false → (code ≡ 104) × (v ≡ w)
  pub took : (k : ValueType) → decode_kind r.kind ≡ Some k
      → may_be_written (all_written w) r.user_key r.seqno ≡ true
      → ReportsWriting w (entry r.user_key r.value r.seqno k) code v

-- writing an entry through the held writer leads from the object a to b
pub record AddsToHeld (r : Row) (a : What) (code : ℕ) (b : What) : Type 0 where
  pub adds : (w : TablesWriting) → multi_writer_in a ≡ Some w →
      IsSomeAnd (multi_writer_in b) (AddsToTables w r code)

-- ---- taking a table

-- the object has neither a finished table nor a writer, and memory for one table
abbrev pub HasRoomForOne : What → Type 0
HasRoomForOne (FilesOf fs) =
    (fs.writer ≡ None) × (fs.tables.items ≡ []) × (vec_len fs.tables < vec_capacity fs.tables)
HasRoomForOne _ = ⊥

-- the handle holds these tables alone, and has found nothing
abbrev pub HoldsNew : List (FinishedTable Global) → Option Held → Type 0
HoldsNew tables held = IsSomeAnd held (λ h. (found_by h ≡ None) × HoldsFiles tables h.what)

-- the call reports the table, which the handle then holds alone, and the next id of the writer, or 0
-- if none is left. Without a table it reports 106
abbrev pub ReportsTaken : ℕ → Option Held → ℕ → Option ℕ → Option (FinishedTable Global) → Type 0
ReportsTaken code held next ids None = code ≡ 106
ReportsTaken code held next ids (Some f) =
    (code ≡ 0) × HoldsNew (f ∷ []) held × (next ≡ unwrap_or ids 0)

-- one call of the library takes the oldest finished table that was not taken, if there is one, which
-- leads from the writer w to v
pub record TakesOldest (w : TablesWriting) (t : Option (FinishedTable Global)) (v : TablesWriting)
    : Type 0 where
  pub table : AreFinished w.present.options (first_label w) (take 1 w.tables) (option_to_list t)
  pub left : v ≡ taken 1 w
  pub last : last_of None (all_written v) ≡ last_of None (all_written w)
  pub ids : length w.tables ≤ w.present.label.table_id

-- the call reports the result of that call. If out of memory, the writer is unchanged
abbrev pub TakesTable : TablesWriting → ℕ → Option Held → ℕ → TablesWriting → Type 0
TakesTable w code held next v = ((code ≡ 1) × (v ≡ w)) ⊎ ((t : Option (FinishedTable Global))
    × TakesOldest w t v × ReportsTaken code held next w.ids t)

-- a table of the writer in the object a is handed out, which leads to the object b
pub record HandsOutTable (code : ℕ) (held : Option Held) (next : ℕ) (a b : What) : Type 0 where
  pub takes : (w : TablesWriting) → multi_writer_in a ≡ Some w →
      IsSomeAnd (multi_writer_in b) (TakesTable w code held next)

-- ---- finishing

-- one call of the library finishes the writer and returns the tables that were not taken
pub record FinishesTables (w : TablesWriting) (r : Result (Vec (FinishedTable Global) Global) Error)
    : Type 0 where
  pub tables : IfOk r (λ fs. AreTables w.present.options.data_block_size w.target (all_written w)
      (tables_of w))
  pub finished : IfOk r (λ fs. AreFinished w.present.options (first_label w) (tables_of w) fs.items)
  pub order : IfOk r (λ fs. AreInKeyOrder (tables_of w))
  pub strict : IfOk r (λ fs. IsStrict (all_written w))
  pub none : IfOk r (λ fs. all_written w ≡ [] → fs.items ≡ [])
  pub refused : Faults r (run_fault w)
  -- the error of a failed writer takes precedence over `OutOfMemory`
  pub first : FaultsFirst r (failed_fault w.failed)
  pub memory : run_fault w ≡ None → IfErr r (λ error. error ≡ OutOfMemory)
  pub room : w.failed ≡ false → table_fault w.present.options (written w.present) ≡ None
      → IfErr r (λ error. error ≡ OutOfMemory)
  pub idle : OnErr r (all_written w ≡ [] → w.failed ≡ true)

-- the call reports the tables, which the handle then holds, and the next id of the writer, or 0 if
-- none is left; else the error code
abbrev pub ReportsTables : ℕ → Option Held → ℕ → Option ℕ
    → Result (Vec (FinishedTable Global) Global) Error → Type 0
ReportsTables code held next ids (Ok tables) =
    (code ≡ 1) ⊎ ((code ≡ 0) × HoldsNew tables.items held × (next ≡ unwrap_or ids 0))
ReportsTables code held next ids (Err e) = code ≡ number_of e

-- the call reports some result of that call
abbrev pub ReportsFinished : TablesWriting → ℕ → Option Held → ℕ → Type 0
ReportsFinished w code held next = (r : Result (Vec (FinishedTable Global) Global) Error)
    × FinishesTables w r × ReportsTables code held next w.ids r

-- finishing the writer in the object a leads to the object b, which holds no writer after any code
pub record FinishesInto (code : ℕ) (held : Option Held) (next : ℕ) (a b : What) : Type 0 where
  pub finishes : (w : TablesWriting) → multi_writer_in a ≡ Some w →
      ReportsFinished w code held next × (b ≡ MultiWriterOf None)

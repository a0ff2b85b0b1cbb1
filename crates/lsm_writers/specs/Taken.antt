-- Finished tables that are taken from a writer of many tables while it goes on.
use Rattle.std.specs.Prelude.{◌≡◌, ◌⊎◌, ℕ, ◌≤◌, ◌||◌, false, List, [], ◌++◌, length, take, drop}
use Rattle.std.specs.Prelude.{Some, None, is_some, IsTrue, if◌then◌else◌}
use Rattle.sst_entries.specs.declared.error.Error.{Error}
use Rattle.sst_entries.specs.declared.error.Error.TheVariants.{OutOfMemory}
use Rattle.sst_entries.specs.Entry.{Entry}
use Rattle.sst_entries.specs.Strict.{last_of}
use Rattle.sst_blocks.specs.declared.table.label.Label.{Label}
use Rattle.sst_blocks.specs.declared.table.options.Options.{Options}
use Rattle.lsm_writers.specs.declared.writer.FinishedTable.{FinishedTable}
use Rattle.lsm_writers.specs.Tables.{AreFinished, GoesOn, TablesWriting, all_written, first_label}
use Rattle.lsm_writers.specs.Tables.{new_tables, standing, tables_of, took, took_fault, turn_fault}
use Rattle.lsm_writers.specs.Tables.{with_options}
use Rattle.lsm_writers.specs.Writing.{Writing, may_be_written}

-- the state after the n oldest finished tables are taken
abbrev pub taken : ℕ → TablesWriting → TablesWriting
taken n m = record m { tables = drop n m.tables }

-- the tables are the oldest ones of a state, and the other state is what is left
pub record AreTakenFrom {A : Type 0} (m : TablesWriting) (gs : List (FinishedTable A))
    (n : TablesWriting) : Type 0 where
  pub finished : AreFinished m.present.options (first_label m) (take (length gs) m.tables) gs
  pub left : n ≡ taken (length gs) m
  pub ids : length m.tables ≤ m.present.label.table_id

-- tables of what is left continue the taken ones
abbrev pub TakenLaw : Type 0 → Type 0
TakenLaw A = (m n : TablesWriting) (gs fs : List (FinishedTable A)) → AreTakenFrom m gs n →
    AreFinished n.present.options (first_label n) (take (length fs) n.tables) fs →
    AreTakenFrom m (gs ++ fs) (taken (length fs) n)

-- the taken tables, then those that finishing returns, are what finishing returns if none is taken
abbrev pub FinishedLaw : Type 0 → Type 0
FinishedLaw A = (m n : TablesWriting) (gs fs : List (FinishedTable A)) → AreTakenFrom m gs n →
    AreFinished n.present.options (first_label n) (tables_of n) fs →
    AreFinished m.present.options (first_label m) (tables_of m) (gs ++ fs)

-- an unfailed writer between its calls
pub record IsWriting (m : TablesWriting) : Type 0 where
  pub works : m.failed ≡ false
  pub goes_on : GoesOn m.target m.ids m.tables m.present

-- a new writer meets the premises of the other laws: it is between its calls, and no table was taken
-- from it
abbrev pub BegunLaw : Type 0 → Type 0
BegunLaw A = (first target level moment : ℕ) (options : Options) →
    let m = with_options (new_tables (Some first) target level moment) options in
    IsWriting m × AreTakenFrom {A = A} m [] m

-- Whatever was taken, a write has the same bound and the same fault, and does the same. Both premises
-- hold again after it.
abbrev pub WrittenLaw : Type 0 → Type 0
WrittenLaw A = (m n : TablesWriting) (gs : List (FinishedTable A)) (e : Entry) →
    AreTakenFrom m gs n → IsWriting m →
    (last_of None (all_written n) ≡ last_of None (all_written m))
    × (took_fault n e ≡ took_fault m e)
    × (took_fault m e ≡ None → AreTakenFrom (took m e) gs (took n e))
    × (took_fault m e ≡ None → IsTrue (may_be_written (all_written n) e.user_key e.seqno) →
    IsWriting (took m e))

-- ---- after an error

-- the finished tables if writing an entry fails with an error other than `OutOfMemory`: the current
-- one is among them if the next table was due and could be begun
abbrev pub tables_left : TablesWriting → Entry → List (List Entry)
tables_left m e =
    if m.failed || is_some (turn_fault m.target m.ids m.present e) then m.tables
    else (standing m e).tables

-- the table info of the current table then: that of the next one if it was begun
abbrev pub info_left : TablesWriting → Entry → Label
info_left m e =
    if m.failed || is_some (turn_fault m.target m.ids m.present e) then m.present.label
    else (standing m e).present.label

-- The state after writing an entry failed. The table info of the current table shows whether the
-- next one was begun. If it was, the table before it is among the finished ones.
pub record IsLeft (m : TablesWriting) (e : Entry) (error : Error) (n : TablesWriting) : Type 0
  where
    -- `OutOfMemory` can also come before the current table is finished
    pub tables : ((n.tables ≡ tables_left m e) × (n.present.label ≡ info_left m e))
        ⊎ ((error ≡ OutOfMemory) × (n.tables ≡ m.tables) × (n.present.label ≡ m.present.label))
    pub first : (n.tables ≡ [] → ⊥) → first_label n ≡ first_label m
    pub options : n.present.options ≡ m.present.options

-- after an error the finished tables stay, and the table info and options of the current one
abbrev pub StayHeld : {A : Type 0} → List (FinishedTable A) → Writing → List (FinishedTable A)
    → Writing → Type 0
StayHeld fs w gs v = (gs ≡ fs) × (v.label ≡ w.label) × (v.options ≡ w.options)

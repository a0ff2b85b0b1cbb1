-- A list that is written as tables, which are opened and put in a run.
use Rattle.std.specs.Prelude.{◌≡◌, ℕ, zero, suc, ◌+◌, ◌^◌, ◌≤◌, List, [], ◌∷◌, length, Option, Some}
use Rattle.std.specs.Prelude.{unwrap_or}
use Rattle.std.specs.List.{AllByRecursion}
use Rattle.std.specs.Option.{option_or}
use Rattle.sst_entries.specs.declared.error.Error.{Error}
use Rattle.sst_entries.specs.Entry.{Entry}
use Rattle.sst_blocks.specs.declared.table.label.Label.{Label}
use Rattle.sst_blocks.specs.declared.table.options.Options.{Options}
use Rattle.sst_blocks.specs.table.Chunks.{joined}
use Rattle.sst_blocks.specs.table.Options.{default_options, label_of}
use Rattle.lsm_sorted.specs.version.Run.{IsInOrder}
use Rattle.lsm_writers.specs.declared.writer.FinishedTable.{FinishedTable}
use Rattle.lsm_writers.specs.Tables.{AreFinished, AreInKeyOrder, AreTables, TableFits}
use Rattle.lsm_writers.specs.Tables.{TablesWriting, drawn, first_id, ids_fault, new_tables, next_id}
use Rattle.lsm_writers.specs.Tables.{next_label, run_fault, took, took_fault}
use Rattle.lsm_readers.specs.point.Answer.{lift}
use Rattle.lsm_readers.specs.OfList.{ends_of}
use Rattle.lsm_readers.specs.point.Table.{IsOpen, OpenTable}
use Rattle.lsm_runs.specs.RunLists.{HoldLists}
use Rattle.lsm_run_parts.specs.RunParts.{range_of}
use Rattle.lsm_runs.specs.compaction.Written.{IsOpened, number_fault}

-- opened tables in order, whose lists, concatenated, are a list with the global seqno applied
pub record IsRunOfList (es : List Entry) (g : ℕ) (tables : List OpenTable) : Type 0 where
  pub lists : List (List Entry)
  pub whole : joined lists ≡ lift es g
  pub hold : HoldLists tables lists
  pub order : IsInOrder range_of tables
  pub some : tables ≡ [] → ⊥

-- an opened table of a list, whose range is the list's ends
pub record IsOpenedOf (label : Label) (es : List Entry) (g : ℕ) (t : OpenTable) : Type 0 where
  pub is : IsOpened label es g t
  pub opened : IsOpen t
  pub range : range_of t ≡ ends_of es

-- opened tables of these lists, with consecutive ids from that of the table info
abbrev pub AreOpened : Label → List (List Entry) → ℕ → List OpenTable → Type 0
AreOpened label [] g [] = Unit {0}
AreOpened label [] g (t ∷ ts) = ⊥
AreOpened label (es ∷ ls) g [] = ⊥
AreOpened label (es ∷ ls) g (t ∷ ts) =
    IsOpenedOf label es g t × AreOpened (next_label label) ls g ts

-- opened tables of a list that is cut by a target size, with consecutive ids from that of the table
-- info
pub record AreCutOf (label : Label) (target : ℕ) (es : List Entry) (g : ℕ)
    (tables : List OpenTable) : Type 0 where
  pub lists : List (List Entry)
  pub cut : AreTables default_options.data_block_size target es lists
  pub opened : AreOpened label lists g tables

-- the table info of the first table that has entries
abbrev pub run_label : Option ℕ → ℕ → ℕ → Label
run_label ids target moment = label_of (first_id target (unwrap_or ids 0)) 0 moment

-- the counter after the last of so many tables
abbrev pub ids_behind : Option ℕ → ℕ → ℕ → Option ℕ
ids_behind ids target zero = drawn ids
ids_behind ids target (suc n) = next_id (first_id target (unwrap_or ids 0) + n)

-- finished tables of a list that is cut by a target size, and the counter after them
pub record AreWritten {A : Type 0} (ids : Option ℕ) (target : ℕ) (moment : ℕ) (es : List Entry)
    (fs : List (FinishedTable A)) (left : Option ℕ) : Type 0 where
  pub lists : List (List Entry)
  pub cut : AreTables default_options.data_block_size target es lists
  pub order : AreInKeyOrder lists
  pub finished : AreFinished default_options (run_label ids target moment) lists fs
  pub left_is : left ≡ ids_behind ids target (length lists)

-- this holds of any list of which these are the finished tables, and of how they were written
abbrev pub OnWritten : {A : Type 0} → List (FinishedTable A)
    → (Option ℕ → ℕ → ℕ → List Entry → Option ℕ → Type 0) → Type 0
OnWritten fs P =
    (ids : Option ℕ) (target moment : ℕ) (es : List Entry) (left : Option ℕ) →
    AreWritten ids target moment es fs left → P ids target moment es left

-- this holds of any lists of which these are the finished tables, and of the first table's info
abbrev pub OnFinished : {A : Type 0} → Options → List (FinishedTable A)
    → (Label → List (List Entry) → Type 0) → Type 0
OnFinished options fs P =
    (label : Label) (lists : List (List Entry)) → AreFinished options label lists fs →
    P label lists

-- a list whose tables fit, with enough ids left
pub record FitsAsTables (ids : Option ℕ) (target : ℕ) (es : List Entry) : Type 0 where
  pub first : ℕ
  pub first_is : ids ≡ Some first
  pub tables : List (List Entry)
  pub cut : AreTables default_options.data_block_size target es tables
  pub fit : AllByRecursion (TableFits default_options) tables
  pub left : first_id target first + length tables ≤ 2 ^ 64

-- the first error of writing some entries one by one and then finishing
abbrev pub writes_fault : TablesWriting → List Entry → Option Error
writes_fault m [] = run_fault m
writes_fault m (e ∷ es) = option_or (took_fault m e) (writes_fault (took m e) es)

-- the error of writing a list as tables: no id is left, or else the first error of writing it
abbrev pub tables_fault : Option ℕ → ℕ → ℕ → List Entry → Option Error
tables_fault ids target moment es =
    option_or (ids_fault ids) (writes_fault (new_tables ids target 0 moment) es)

-- the error of writing a list as a run: the same, or else a seqno that is too large with the global
-- one applied
abbrev pub chain_fault : Option ℕ → ℕ → ℕ → List Entry → ℕ → Option Error
chain_fault ids target moment es g =
    option_or (tables_fault ids target moment es) (number_fault es g)

-- the error of writing a list as tables with ids from 1 on, or else of writing what is kept of it
-- with the next ids
abbrev pub both_fault : ℕ → List Entry → List (List Entry) → List Entry → Option Error
both_fault target es tables left =
    option_or (tables_fault (Some 1) target 0 es)
    (tables_fault (ids_behind (Some 1) target (length tables)) target 0 left)

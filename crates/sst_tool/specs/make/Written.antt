-- The tables of lines.
use Rattle.std.specs.Prelude.{◌≡◌, ◌≤◌, ℕ, Bool, true, false}
use Rattle.std.specs.Prelude.{List, [], ◌∷◌, length}
use Rattle.std.specs.Prelude.{Option, Some}
use Rattle.sst_entries.specs.Entry.{Entry}
use Rattle.sst_entries.specs.Strict.{IsStrict, is_before}
use Rattle.sst_blocks.specs.declared.table.options.Options.{Options}
use Rattle.lsm_writers.specs.declared.writer.FinishedTable.{FinishedTable}
use Rattle.lsm_writers.specs.Tables.{AreFinished, AreInKeyOrder, AreTables, TablesWriting}
use Rattle.lsm_writers.specs.Tables.{all_written, first_label, new_tables, tables_of}
use Rattle.lsm_writers.specs.Tables.{with_options}
use Rattle.lsm_writers.specs.Writing.{IsSmallIndex}
use Rattle.lsm_runs.specs.compaction.Compacted.{AreWrittenBy}
use Rattle.sst_blocks.specs.table.Options.{default_options}
use Rattle.sst_tool.specs.files.Targets.{largest_table}
use Rattle.sst_tool.specs.declared.lines.entry_line.Format.{Format}
use Rattle.sst_tool.specs.make.Entries.{HasEntries, LineSpells}
use Rattle.sst_tool.specs.make.Sorting.{IsSortOf}
use Rattle.sst_tool.specs.make.Taken.{TookAll}
use Rattle.sst_tool.specs.declared.make.options.TableOptions.{TableOptions}
use Rattle.sst_tool.specs.declared.make.options.WriteOptions.{WriteOptions}

-- The options of the tables' writer.
abbrev pub options_of : TableOptions → Options
options_of o = record default_options {
  data_block_size = o.block_size;
  index_kind = o.index;
  bloom_policy = o.filter;
}

-- No block and no partition has more than 4 MiB.
abbrev pub HasSmallSizes : TableOptions → Type 0
HasSmallSizes o = (o.block_size ≤ 4194304) × IsSmallIndex o.index

-- The writer of these options.
abbrev pub writer_by : TableOptions → TablesWriting
writer_by o = with_options (new_tables (Some 1) (largest_table o.target) o.level o.created_at)
    (options_of o)

-- The writer took the entry of the line.
pub record TookLine (format : Format) (line : List ℕ) (w m : TablesWriting) : Type 0 where
  pub entry : Entry
  pub spelled : LineSpells format line entry
  pub taken : TookAll w (entry ∷ []) m

-- The writer took the entries, in their order or sorted.
abbrev pub TookSorted : Bool → TablesWriting → List Entry → TablesWriting → Type 0
TookSorted false w es m = TookAll w es m
TookSorted true w es m =
    (sorted : List Entry) × IsSortOf is_before es sorted × TookAll w sorted m

-- The lines of the input spell so many entries, and the writer took them.
pub record TookLines (o : WriteOptions) (input : Option (List ℕ)) (w m : TablesWriting)
    (count : ℕ) : Type 0 where
  pub entries : List Entry
  pub spelled : HasEntries o.format input entries
  pub counted : count ≡ length entries
  pub taken : TookSorted o.sort w entries m

-- The finished tables of the writer.
pub record AreTablesOf {A : Type 0} (m : TablesWriting) (fs : List (FinishedTable A)) : Type 0 where
  pub strict : IsStrict (all_written m)
  pub cut : AreTables m.present.options.data_block_size m.target (all_written m) (tables_of m)
  pub order : AreInKeyOrder (tables_of m)
  pub finished : AreFinished m.present.options (first_label m) (tables_of m) fs

-- The tables of the list.
abbrev pub WritesAll : {A : Type 0} → TablesWriting → List Entry → List (FinishedTable A) → Type 0
WritesAll w es fs = (left : Option ℕ) × AreWrittenBy w es fs left

-- The tables of the list, in its order or sorted.
abbrev pub WritesSorted : {A : Type 0} → Bool → TablesWriting → List Entry
    → List (FinishedTable A) → Type 0
WritesSorted false w es fs = WritesAll w es fs
WritesSorted true w es fs =
    (sorted : List Entry) × IsSortOf is_before es sorted × WritesAll w sorted fs

-- The lines of the input spell so many entries, and these are their tables.
pub record AreOfLines {A : Type 0} (o : WriteOptions) (input : Option (List ℕ))
    (fs : List (FinishedTable A)) (count : ℕ) : Type 0 where
  pub entries : List Entry
  pub spelled : HasEntries o.format input entries
  pub counted : count ≡ length entries
  pub written : WritesSorted o.sort (writer_by o.tables) entries fs

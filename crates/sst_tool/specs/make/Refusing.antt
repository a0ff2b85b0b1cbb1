-- The errors of writing lines.
use Rattle.std.specs.Prelude.{◌≡◌, ◌⊎◌, ℕ, Bool, false, List, [], Option, Some, length}
use Rattle.sst_entries.specs.Error.{is_memory}
use Rattle.sst_entries.specs.declared.error.Error.{Error}
use Rattle.sst_entries.specs.declared.error.Error.TheVariants.{OutOfMemory}
use Rattle.lsm_writers.specs.declared.writer.FinishedTable.{FinishedTable}
use Rattle.lsm_writers.specs.Tables.{TablesWriting, run_fault}
use Rattle.sst_tool.specs.declared.files.file_error.FileError.{FileError}
use Rattle.sst_tool.specs.files.Files.{error_of_file}
use Rattle.sst_tool.specs.files.Steps.{Step}
use Rattle.sst_tool.specs.declared.files.made.Made.{Made}
use Rattle.sst_tool.specs.declared.files.error.ToolError.{ToolError}
use Rattle.sst_tool.specs.declared.files.error.ToolError.TheVariants.{File, NoEntries, Refused}
use Rattle.sst_tool.specs.declared.files.error.ToolError.TheVariants.{SizeTooLarge}
use Rattle.sst_tool.specs.declared.make.options.TableOptions.{TableOptions}
use Rattle.sst_tool.specs.declared.make.options.WriteOptions.{WriteOptions}
use Rattle.sst_tool.specs.make.Entries.{HasEntries}
use Rattle.sst_tool.specs.make.Faults.{StopsLines}
use Rattle.sst_tool.specs.make.TableFiles.{AreTablesNotPlaced, AreTablesPlaced}
use Rattle.sst_tool.specs.make.Written.{AreOfLines, HasSmallSizes, TookLines, writer_by}

-- A block or partition would be too large, or the error is OutOfMemory.
abbrev pub TellsSizes : TableOptions → ToolError → Type 0
TellsSizes o SizeTooLarge = ¬ HasSmallSizes o
TellsSizes o (Refused e) = e ≡ OutOfMemory
TellsSizes o error = ⊥

-- The error of finishing the writer, or OutOfMemory.
abbrev pub TellsEnd : TablesWriting → ToolError → Type 0
TellsEnd w (Refused e) = is_memory e ≡ false → run_fault w ≡ Some e
TellsEnd w error = ⊥

-- The writer takes all lines, and finishing it fails.
pub record RefusesEnd (o : WriteOptions) (input : Option (List ℕ)) (e : Error) : Type 0 where
  pub writer : TablesWriting
  pub count : ℕ
  pub taken : TookLines o input (writer_by o.tables) writer count
  pub returned : run_fault writer ≡ Some e

-- The sizes are too large, there are no entries, memory runs out, finishing fails, or a line or the
-- input has an error.
abbrev pub RefusesLines : WriteOptions → Option (List ℕ) → ToolError → Type 0
RefusesLines o input SizeTooLarge = ¬ HasSmallSizes o.tables
RefusesLines o input NoEntries = HasEntries o.format input []
RefusesLines o input (Refused e) = is_memory e ≡ false → RefusesEnd o input e
RefusesLines o input (File e) = ⊥
RefusesLines o input error = StopsLines o.sort o.format input (writer_by o.tables) error

-- So many tables, of so many entries, are made of the lines of the input, and exactly their files
-- are written.
abbrev pub WritesLines : Type 0 → WriteOptions → Option (List ℕ) → List ℕ
    → (List ℕ → Option Bool) → Made → (known new : Option (List Step)) → Type 0
WritesLines A o input path there made known new = (fs : List (FinishedTable A))
    × (made.tables ≡ length fs) × AreOfLines o input fs made.entries
    × AreTablesPlaced path o.tables.target fs there known new

-- The tables are made, and their files are not all written, or not durable.
pub record RefusesToPlace (A : Type 0) (o : WriteOptions) (input : Option (List ℕ))
    (path : List ℕ) (there : List ℕ → Option Bool) (known : Option (List Step))
    (error : ToolError) (new : Option (List Step)) : Type 0 where
  pub tables : List (FinishedTable A)
  pub count : ℕ
  pub made : AreOfLines o input tables count
  pub file : FileError
  pub returned : error ≡ error_of_file file
  pub stops : AreTablesNotPlaced path o.tables.target tables there known file new

-- No tables are made and nothing was done; or the files of the tables are not all written.
abbrev pub RefusesToWrite : Type 0 → WriteOptions → Option (List ℕ) → List ℕ
    → (List ℕ → Option Bool) → Option (List Step) → ToolError → Option (List Step) → Type 0
RefusesToWrite A o input path there known error new =
    (RefusesLines o input error × (new ≡ known))
    ⊎ RefusesToPlace A o input path there known error new

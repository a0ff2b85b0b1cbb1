-- The errors of compacting files.
use denote.Ref.{Bor}
use Rattle.std.specs.Prelude.{◌≡◌, ◌⊎◌, ℕ, Bool, true, List, Option, length}
use Rattle.lsm_writers.specs.declared.writer.FinishedTable.{FinishedTable}
use Rattle.sst_tool.specs.declared.files.file_error.FileError.{FileError}
use Rattle.sst_tool.specs.files.Files.{error_of_file}
use Rattle.sst_tool.specs.files.Opened.{AreOpenedFrom, StopsOpening}
use Rattle.sst_tool.specs.files.Steps.{Step}
use Rattle.lsm_readers.specs.point.Table.{OpenTable}
use Rattle.sst_tool.specs.declared.files.error.ToolError.{ToolError}
use Rattle.sst_tool.specs.declared.files.error.ToolError.TheVariants.{SizeTooLarge}
use Rattle.sst_tool.specs.declared.make.compact_options.CompactOptions.{CompactOptions}
use Rattle.sst_tool.specs.declared.files.file_error.FileFault.TheVariants.{Taken}
use Rattle.sst_tool.specs.files.Placed.{TellsFound}
use Rattle.sst_tool.specs.make.Blamed.{IsBlame, MissesNone}
use Rattle.sst_tool.specs.make.Compacted.{AreCompactedOf, TellCount, TellsLibrary, TellsOrder}
use Rattle.sst_tool.specs.make.Filled.{IsFilled, StaysUnfilled, TellsFolder}
use Rattle.sst_tool.specs.make.Scanned.{NamesOrder}
use Rattle.sst_tool.specs.make.Written.{HasSmallSizes}
use Rattle.sst_tool.specs.declared.files.made.Made.{Made}

-- The new tables are made of these files, opened in their order.
pub record AreOfFiles {A : Type 0} (o : CompactOptions) (content : List ℕ → Option (List ℕ))
    (paths : List (Bor (List ℕ))) (tables : List (FinishedTable A)) : Type 0 where
  pub opened : List OpenTable
  pub many : length opened ≡ length paths
  pub are : AreOpenedFrom true content paths opened
  pub made : AreCompactedOf o opened tables

-- The error is that of the first file that does not open, without the file if it is OutOfMemory.
pub record StopsFiles (content : List ℕ → Option (List ℕ)) (paths : List (Bor (List ℕ)))
    (e : ToolError) : Type 0 where
  pub file : FileError
  pub stops : StopsOpening true content paths file
  pub returned : e ≡ error_of_file file

-- All files open, and the error is that of compacting their tables.
pub record StopsTables (o : CompactOptions) (content : List ℕ → Option (List ℕ))
    (paths : List (Bor (List ℕ))) (e : ToolError) : Type 0 where
  pub opened : List OpenTable
  pub many : length opened ≡ length paths
  pub are : AreOpenedFrom true content paths opened
  pub order : TellsOrder o opened e
  pub library : TellsLibrary o opened e
  pub blames : IsBlame paths opened e
  pub misses : MissesNone opened e
  pub names : NamesOrder paths opened e

-- The error of opening files and compacting their tables.
abbrev pub RefusesFiles : CompactOptions → (List ℕ → Option (List ℕ)) → List (Bor (List ℕ))
    → ToolError → Type 0
RefusesFiles o content paths e = StopsFiles content paths e ⊎ StopsTables o content paths e

-- The tables are made, and the folder is not.
pub record StopsFilling (A : Type 0) (o : CompactOptions) (content : List ℕ → Option (List ℕ))
    (paths : List (Bor (List ℕ))) (folder : List ℕ) (known : Option (List Step))
    (e : ToolError) (new : Option (List Step)) : Type 0 where
  pub tables : List (FinishedTable A)
  pub made : AreOfFiles o content paths tables
  pub stops : StaysUnfilled folder tables known e new

-- A block or partition would be too large.
abbrev pub TellsTooLarge : CompactOptions → ToolError → Type 0
TellsTooLarge o e = (e ≡ SizeTooLarge) × ¬ HasSmallSizes o.tables

-- The folder's name is taken, or the sizes are too large, or no tables are made, and nothing was
-- done; or the folder of the tables is not made.
abbrev pub RefusesToCompact : Type 0 → CompactOptions → (List ℕ → Option (List ℕ))
    → List (Bor (List ℕ)) → List ℕ → Option Bool → Option (List Step) → ToolError
    → Option (List Step) → Type 0
RefusesToCompact A o content paths folder there known e new =
    ((TellsFolder folder (TellsFound Taken there) e
    ⊎ (TellsTooLarge o e ⊎ RefusesFiles o content paths e)) × (new ≡ known))
    ⊎ StopsFilling A o content paths folder known e new

-- So many tables, with so many entries, are made of the files and in the new folder. After that only
-- temporary folders of its name were removed, and nothing else was done.
pub record CompactsFiles (A : Type 0) (o : CompactOptions) (content : List ℕ → Option (List ℕ))
    (paths : List (Bor (List ℕ))) (folder : List ℕ) (made : Made) (known new : Option (List Step))
    : Type 0 where
  pub tables : List (FinishedTable A)
  pub many : made.tables ≡ length tables
  pub of_files : AreOfFiles o content paths tables
  pub count : TellCount tables made.entries
  pub filled : IsFilled folder tables known new

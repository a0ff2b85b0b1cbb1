-- New folders of tables.
use Rattle.std.specs.Prelude.{◌≡◌, ℕ, List, Option, map}
use Rattle.lsm_writers.specs.declared.writer.FinishedTable.{FinishedTable}
use Rattle.sst_tool.specs.declared.files.file_error.FileError.{FileError}
use Rattle.sst_tool.specs.declared.files.file_error.FileFault.{FileFault}
use Rattle.sst_tool.specs.files.Files.{error_of_file, path_text}
use Rattle.sst_tool.specs.files.NewFolders.{IsFolderInPlace, IsFolderNotPlaced}
use Rattle.sst_tool.specs.files.Steps.{Step}
use Rattle.sst_tool.specs.declared.files.error.ToolError.{ToolError}
use Rattle.sst_tool.specs.declared.files.error.ToolError.TheVariants as error

-- The new folder has exactly the files of these tables, 1.sst, 2.sst and so on, and its name was
-- synced. After that only temporary folders of this name were removed.
abbrev pub IsFilled : {A : Type 0} → List ℕ → List (FinishedTable A) → Option (List Step)
    → Option (List Step) → Type 0
IsFilled {A} folder tables known new =
    IsFolderInPlace folder (map (λ (t : FinishedTable A). t.bytes) tables) known new

-- The new folder is not made, or is not durable. The error says so, and names no file if it is
-- OutOfMemory.
pub record StaysUnfilled {A : Type 0} (folder : List ℕ) (tables : List (FinishedTable A))
    (known : Option (List Step)) (e : ToolError) (new : Option (List Step)) : Type 0 where
  pub file : FileError
  pub returned : e ≡ error_of_file file
  pub stops : IsFolderNotPlaced folder (map (λ (t : FinishedTable A). t.bytes) tables) known file
      new

-- The error names this folder, with a fault of this kind.
abbrev pub TellsFolder : List ℕ → (FileFault → Type 0) → ToolError → Type 0
TellsFolder folder Is (error.File e) = (path_text e.name ≡ folder) × Is e.fault
TellsFolder folder Is e = ⊥

-- The files of written tables.
use Rattle.std.specs.Prelude.{◌≡◌, ◌≤◌, ◌+◌, ◌⊎◌, ℕ, Bool, false, List, ◌++◌, length}
use Rattle.std.specs.Prelude.{IfSome, Option, Some, None, codes, map}
use Rattle.lsm_writers.specs.declared.writer.FinishedTable.{FinishedTable}
use Rattle.sst_tool.specs.files.Files.{error_of_file, file_number, path_text}
use Rattle.sst_tool.specs.files.Numbered.{named_bytes, numbered_files}
use Rattle.sst_tool.specs.files.Placed.{AreInPlace, AreNotPlaced, AreNotPlacedBefore, IfLeft}
use Rattle.sst_tool.specs.files.Steps.{Step}
use Rattle.sst_tool.specs.declared.files.file_error.FileError.{FileError}
use Rattle.sst_tool.specs.declared.files.write.NewFile.{NewFile}
use Rattle.sst_tool.specs.declared.files.error.ToolError.{ToolError}
use Rattle.sst_tool.specs.declared.files.error.ToolError.TheVariants.{File, Refused}
use Rattle.sst_entries.specs.declared.error.Error.TheVariants.{OutOfMemory}

-- The name of a table's file: the path, or with a target the path with a number.
abbrev pub table_file_name : List ℕ → Option ℕ → ℕ → List ℕ
table_file_name path None number = path
table_file_name path (Some target) number = path ++ (codes "." ++ file_number number)

-- The names of the tables' files, numbered from here, with their bytes.
abbrev pub files_from : {A : Type 0} → List ℕ → Option ℕ → ℕ → List (FinishedTable A)
    → List (List ℕ × List ℕ)
files_from {A} path target number fs =
    numbered_files (table_file_name path target) number (map (λ (f : FinishedTable A). f.bytes) fs)

-- A file that is reported as left over has the name after the tables.
abbrev pub TellsEarlier : List ℕ → Option ℕ → ℕ → ToolError → Type 0
TellsEarlier path target tables (File error) =
    IfLeft error.fault (path_text error.name ≡ table_file_name path target (tables + 1))
TellsEarlier path target tables error = Unit {0}

-- A file that the error names is that of a table, or the one after them.
abbrev pub TellsTableFile : List ℕ → Option ℕ → ℕ → ToolError → Type 0
TellsTableFile path target tables (File error) =
    (number : ℕ) × (number ≤ tables)
    × (path_text error.name ≡ table_file_name path target (number + 1))
TellsTableFile path target tables error = Unit {0}

-- With a target the name after the last is free, if that is known.
abbrev pub IsFreeBehind : Option ℕ → Option Bool → Type 0
IsFreeBehind None there = Unit {0}
IsFreeBehind (Some target) there = IfSome there (λ b. b ≡ false)

-- Exactly the files of the tables were written, with their bytes.
pub record AreTablesPlaced {A : Type 0} (path : List ℕ) (target : Option ℕ)
    (fs : List (FinishedTable A)) (there : List ℕ → Option Bool)
    (known new : Option (List Step)) : Type 0 where
  pub wanted : List NewFile
  pub files : map named_bytes wanted ≡ files_from path target 1 fs
  pub placed : AreInPlace known wanted new
  pub free : IsFreeBehind target (there (table_file_name path target (length fs + 1)))

-- The files are not written, or not durable. With a target the name after the last is tested first.
abbrev pub StopsPlacing : Option ℕ → List ℕ → (List ℕ → Option Bool) → Option (List Step)
    → List NewFile → FileError → Option (List Step) → Type 0
StopsPlacing None next there known wanted e new = AreNotPlaced there known wanted e new
StopsPlacing (Some target) next there known wanted e new =
    AreNotPlacedBefore there known next wanted e new

-- The files of the tables, with these names and bytes, are not written, or not durable.
pub record AreTablesNotPlaced {A : Type 0} (path : List ℕ) (target : Option ℕ)
    (fs : List (FinishedTable A)) (there : List ℕ → Option Bool) (known : Option (List Step))
    (e : FileError) (new : Option (List Step)) : Type 0 where
  pub wanted : List NewFile
  pub files : map named_bytes wanted ≡ files_from path target 1 fs
  pub stops : StopsPlacing target (table_file_name path target (length fs + 1)) there known
      wanted e new

-- Memory ran out and nothing was done; or the files were not written, and the error names one or is
-- OutOfMemory.
abbrev pub RefusesTables : {A : Type 0} → List ℕ → Option ℕ → List (FinishedTable A)
    → (List ℕ → Option Bool) → Option (List Step) → ToolError → Option (List Step) → Type 0
RefusesTables path target fs there known error new =
    ((error ≡ Refused OutOfMemory) × (new ≡ known))
    ⊎ ((file : FileError) × (error ≡ error_of_file file)
    × AreTablesNotPlaced path target fs there known file new)

-- The results of commands that write tables.
use Rattle.std.specs.Prelude.{◌≡◌, ◌⊎◌, ℕ, Bool, List, Option, length}
use Rattle.std.specs.Global.{Global}
use Rattle.lsm_writers.specs.declared.writer.FinishedTable.{FinishedTable}
use Rattle.tool_options.specs.declared.tasks.CompactTask.{CompactTask}
use Rattle.tool_options.specs.declared.tasks.PackTask.{PackTask}
use Rattle.tool_options.specs.declared.tasks.WriteTask.{WriteTask}
use Rattle.sst_tool.specs.files.Steps.{Step}
use Rattle.sst_tool.specs.declared.files.error.ToolError.{ToolError}
use Rattle.sst_tool.specs.declared.files.error.ToolError.TheVariants as error
use Rattle.sst_tool.specs.declared.files.made.Made.{Made}
use Rattle.sst_tool.specs.make.Packed.{RefusesToPack}
use Rattle.sst_tool.specs.make.Refusing.{RefusesToWrite}
use Rattle.sst_tool.specs.make.TableFiles.{AreTablesPlaced}
use Rattle.sst_tool.specs.make.Written.{AreOfLines}
use Rattle.sst_tool.specs.declared.make.options.WriteOptions.{WriteOptions}
use Rattle.sst_tool.specs.make.NotCompacted.{CompactsFiles, RefusesToCompact}
use Rattle.sst_tool.specs.declared.make.compact_options.CompactOptions.{CompactOptions}
use Rattle.sst.specs.Options.{compact_by, write_by}

-- The error is one of the output.
abbrev pub TakesNoMore : ToolError → Type 0
TakesNoMore (error.Output e) = Unit {0}
TakesNoMore e = ⊥

-- So many tables of so many entries were made from the input's lines, by the task's options, and
-- exactly their files were written.
pub record WritesTables (task : WriteTask) (input : Option (List ℕ)) (there : List ℕ → Option Bool)
    (made : Made) (known new : Option (List Step)) : Type 0 where
  pub options : WriteOptions
  pub asked : options ≡ write_by task options
  pub tables : List (FinishedTable Global)
  pub many : made.tables ≡ length tables
  pub lines : AreOfLines options input tables made.entries
  pub placed : AreTablesPlaced task.file.now task.tables.target tables there known new

-- The command failed with this error, or it succeeded and the output failed.
abbrev pub RefusesWrite : WriteTask → Option (List ℕ) → (List ℕ → Option Bool)
    → Option (List Step) → ToolError → Option (List Step) → Type 0
RefusesWrite task input there known e new = ((o : WriteOptions) × (o ≡ write_by task o)
    × RefusesToWrite Global o input task.file.now there known e new)
    ⊎ (TakesNoMore e × ((made : Made) × WritesTables task input there made known new))

-- The files were compacted by the task's options.
pub record CompactsTables (task : CompactTask) (content : List ℕ → Option (List ℕ)) (made : Made)
    (known new : Option (List Step)) : Type 0 where
  pub options : CompactOptions
  pub asked : options ≡ compact_by task options
  pub compacts :
      CompactsFiles Global options content task.files.items task.folder.now made known new

-- The command failed with this error, or it succeeded and the output failed.
abbrev pub RefusesCompact : CompactTask → (List ℕ → Option (List ℕ)) → (List ℕ → Option Bool)
    → Option (List Step) → ToolError → Option (List Step) → Type 0
RefusesCompact task content there known e new = ((o : CompactOptions) × (o ≡ compact_by task o)
    × RefusesToCompact Global o content task.files.items task.folder.now (there task.folder.now)
    known e new)
    ⊎ (TakesNoMore e × ((made : Made) × CompactsTables task content made known new))

-- Packing the files failed with this error, or the output failed.
abbrev pub RefusesPack : PackTask → (List ℕ → Option (List ℕ)) → ToolError → Type 0
RefusesPack task content e = RefusesToPack content task.files.items e ⊎ TakesNoMore e

-- The definitions that contracts of this crate cite, under one name.
pub use Rattle.std.specs.IoError.{error_kind}
pub use Rattle.std.specs.declared.io.Error.{Error as IoError}
pub use Rattle.std.specs.Option.{option_map}
pub use Rattle.sst_entries.specs.Error.{is_memory}
pub use Rattle.lsm_readers.specs.point.Table.{OpenTable}
pub use Rattle.sst_tool.specs.lines.Escapes.{WordMeans}
pub use Rattle.sst_tool.specs.declared.files.error.ToolError.TheVariants.{Output}
pub use Rattle.sst_tool.specs.files.Files.{is_memory_fault}
pub use Rattle.sst_tool.specs.files.Opened.{HasContent, IsToldByBytes}
pub use Rattle.sst_tool.specs.declared.files.made.Made.{Made as MadeTables}
pub use Rattle.sst_tool.specs.show.Failures.{NamesNone}
pub use Rattle.sst_tool.specs.show.Files.{IsSoundTable}
pub use Rattle.sst.specs.Making.{CompactsTables, RefusesCompact, RefusesPack, RefusesWrite}
pub use Rattle.sst.specs.Making.{WritesTables}
pub use Rattle.sst.specs.Options.{compact_by, format_of, tables_by, write_by}
pub use Rattle.sst.specs.Showing.{AreNamed, DoesDump, DoesGet, DumpsEach, DumpsMerged}
pub use Rattle.sst.specs.Showing.{MeansKey}
pub use Rattle.sst.specs.Statuses.{is_closed, status_of_answer, status_of_failure}
pub use Rattle.sst.specs.Tasks.{DoesTask, RefusesTask, Runs}
pub use Rattle.sst.specs.Verified.{AreSoundFiles, HaveFaulty, IsFaultyFile, IsSoundFile}
pub use Rattle.sst.specs.Verified.{StoresNoTable}

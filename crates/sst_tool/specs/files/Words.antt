-- The definitions that contracts of this crate cite, under one name.
pub use Rattle.std.specs.Fs.{IsDir, IsFile, file_type, metadata_len, metadata_mode}
pub use Rattle.std.specs.Fs.{permissions_mode}
pub use Rattle.std.specs.Io.KnownBytes.{Appends, IsAtEnd}
pub use Rattle.std.specs.IoError.{error_kind}
pub use Rattle.std.specs.List.{AllByRecursion}
pub use Rattle.std.specs.Option.{option_copied, option_map}
pub use Rattle.lsm_readers.specs.point.Parts.{recovered_result}
pub use Rattle.lsm_readers.specs.point.Table.{OpenTable}
pub use Rattle.sst_entries.specs.Error.{Gives}
pub use Rattle.lsm_files.specs.Reads.{AreKnown}
pub use Rattle.sst_tool.specs.files.Contents.{bytes_in}
pub use Rattle.sst_tool.specs.files.Files.{IsBeside, IsCutBehind, IsCutShort, IsReadFault}
pub use Rattle.sst_tool.specs.files.Files.{is_memory_fault, path_text}
pub use Rattle.sst_tool.specs.files.Folders.{folder_of, or_here}
pub use Rattle.sst_tool.specs.files.Modes.{AreModesKept}
pub use Rattle.sst_tool.specs.files.NewFolders.{Clears, IsBesideFolder, IsFolderInPlace}
pub use Rattle.sst_tool.specs.files.NewFolders.{IsFolderNotPlaced}
pub use Rattle.sst_tool.specs.files.NewFolders.{IsMakingFault, IsNamingFault, IsNotFilled, IsStemOf}
pub use Rattle.sst_tool.specs.files.NewFolders.{IsWritingFault, LiesWithin, MaySyncNames, StopsWithin}
pub use Rattle.sst_tool.specs.files.NewFolders.{TellsNameTaken, TellsStemTaken, TellsTaken, ThenClears}
pub use Rattle.sst_tool.specs.files.NewFolders.{filling_all, naming_folder, numbered_within, path_within}
pub use Rattle.sst_tool.specs.files.NewFolders.{table_bytes}
pub use Rattle.sst_tool.specs.files.Numbered.{named_bytes, numbered_files, numbered_path, with_number}
pub use Rattle.sst_tool.specs.files.Opened.{AreOpenedFrom, HasContent, IsToldByBytes, StopsOpening}
pub use Rattle.sst_tool.specs.files.Opened.{TellsFailure, TellsRefused, fault_of_read}
pub use Rattle.sst_tool.specs.files.Placed.{AreBeside, AreInPlace, AreNotPlaced, AreNotPlacedBefore}
pub use Rattle.sst_tool.specs.files.Placed.{AreNotPut, ArePut, IfLeft, IsBesideOne, IsEarly}
pub use Rattle.sst_tool.specs.files.Placed.{IsLookFault, IsNotSynced, StopSyncing}
pub use Rattle.sst_tool.specs.files.Placed.{StopsBefore, StopsRenamingAt, TellsAllTaken, TellsFound}
pub use Rattle.sst_tool.specs.files.Placed.{TellsKind, TellsLeft, TellsRenamed, removing, renaming}
pub use Rattle.sst_tool.specs.files.Placed.{syncing, writing}
pub use Rattle.sst_tool.specs.files.Standing.{BeforeAndAfter, HaveModesKept, IsAdded, IsWritten}
pub use Rattle.sst_tool.specs.files.Standing.{standing_in, standing_of}
pub use Rattle.sst_tool.specs.files.Steps.{OnlyDoes, Removes, Step, requested_mode, then_done}
pub use Rattle.sst_tool.specs.files.Steps.{written_if}
pub use Rattle.sst_tool.specs.files.Steps.Step.{MadeFolder, Removed, RemovedFolder, Renamed}
pub use Rattle.sst_tool.specs.files.Steps.Step.{RenamedFolder, Synced, SyncedNames, Wrote}
pub use Rattle.sst_tool.specs.files.Targets.{largest_table}
pub use Rattle.sst_tool.specs.files.There.{SameButBehind, SameElsewhere}
pub use Rattle.sst_tool.specs.declared.files.file_error.FileFault.TheVariants.{Folder}

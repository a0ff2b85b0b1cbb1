-- The definitions that contracts of this crate cite, under one name.
pub use Rattle.std.specs.Arc.{arc_value}
pub use Rattle.std.specs.Io.BufRead.{strip_last}
pub use Rattle.std.specs.List.{AllByRecursion, slice_get}
pub use Rattle.std.specs.Option.{option_map}
pub use Rattle.sst_entries.specs.Entry.{Entry}
pub use Rattle.sst_entries.specs.Error.{Faults, is_memory}
pub use Rattle.sst_entries.specs.Lending.{entry_of_ref}
pub use Rattle.sst_entries.specs.Point.{read_place}
pub use Rattle.sst_entries.specs.Strict.{may_follow, version_cmp}
pub use Rattle.sst_entries.specs.declared.error.Error.{Error as Refusal}
pub use Rattle.sst_entries.specs.declared.error.Error.TheVariants.{OutOfMemory}
pub use Rattle.lsm_sorted.specs.version.Packed.{IsPackedOf}
pub use Rattle.lsm_sorted.specs.version.Packing.{AreTablesWellFormed}
pub use Rattle.lsm_sorted.specs.merge.Ends.{R}
unfoldable pub use Rattle.sst_blocks.specs.table.Facts.{highest_seqno}
pub use Rattle.lsm_writers.specs.Tables.{all_written, took, took_fault}
pub use Rattle.lsm_writers.specs.Writing.{IsSmallIndex, may_be_written}
pub use Rattle.lsm_readers.specs.Scan.{ScansLent}
pub use Rattle.lsm_readers.specs.Stored.{StoresList}
pub use Rattle.lsm_readers.specs.point.Table.{OpenTable}
pub use Rattle.lsm_run_parts.specs.RunParts.{range_of}
pub use Rattle.lsm_runs.specs.RunScan.{early_scan_fault, table_scan}
pub use Rattle.lsm_runs.specs.compaction.AnyRuns.{AreTablesBy, CameInOrder, GoesThrough, HasMade}
pub use Rattle.lsm_runs.specs.compaction.AnyRuns.{YieldsResults}
pub use Rattle.lsm_runs.specs.compaction.Compacted.{FitsBy}
pub use Rattle.lsm_runs.specs.compaction.OpenedBy.{run_with_fault}
pub use Rattle.lsm_runs.specs.declared.compaction.any_runs.CompactionOutcome.TheVariants.{Tables}
pub use Rattle.sst_tool.specs.files.Files.{path_text}
pub use Rattle.sst_tool.specs.files.Modes.{AreModesKept}
pub use Rattle.sst_tool.specs.files.Numbered.{named_bytes, numbered_path}
pub use Rattle.sst_tool.specs.files.Opened.{AreOpenedFrom, OpenAs}
pub use Rattle.sst_tool.specs.files.Placed.{AreInPlace, IfLeft, TellsFound}
pub use Rattle.sst_tool.specs.declared.files.error.LineFault.TheVariants.{OutOfOrder, Repeated}
pub use Rattle.sst_tool.specs.declared.files.error.LineFault.TheVariants.{Spelling}
pub use Rattle.sst_tool.specs.declared.files.error.ToolError.TheVariants.{Line, Refused, SizeTooLarge}
pub use Rattle.sst_tool.specs.declared.files.file_error.FileFault.TheVariants.{Taken}
pub use Rattle.sst_tool.specs.make.Blamed.{BlamesNone, BlamesNoneForMemory, IsBlame, KeepsRefusal}
pub use Rattle.sst_tool.specs.make.Blamed.{MeetsFirst, MissesNone, NamesBlame, TellsOnlyOrder}
pub use Rattle.sst_tool.specs.make.Compacted.{AreCompactedOf, HasCount, HasNoTables, IfCompactable}
pub use Rattle.sst_tool.specs.make.Compacted.{IfOutOfOrder, OnKeptEntries, TellCount, TellsLibrary}
pub use Rattle.sst_tool.specs.make.Compacted.{TellsOrder}
pub use Rattle.sst_tool.specs.make.Compacted.{counted, each_alone}
pub use Rattle.sst_tool.specs.make.Entries.{HasEntries, HasRows, LineSpells, LinesLaw, ReadsInputLine}
pub use Rattle.sst_tool.specs.make.Entries.{numbered, row_entries}
pub use Rattle.sst_tool.specs.make.Faults.{IsOfInput, StopsAmong, StopsIn, StopsInOrder, StopsLines}
pub use Rattle.sst_tool.specs.make.Faults.{StopsReading, TellsEntry, TellsLine, TellsSpelling}
pub use Rattle.sst_tool.specs.make.Filled.{IsFilled, StaysUnfilled, TellsFolder}
pub use Rattle.sst_tool.specs.make.NotCompacted.{AreOfFiles, CompactsFiles, RefusesFiles}
pub use Rattle.sst_tool.specs.make.NotCompacted.{RefusesToCompact}
pub use Rattle.sst_tool.specs.make.Packed.{NamesTurned, RefusesToPack}
pub use Rattle.sst_tool.specs.make.Refusing.{RefusesLines, RefusesToWrite, TellsEnd, TellsSizes}
pub use Rattle.sst_tool.specs.make.Refusing.{WritesLines}
pub use Rattle.sst_tool.specs.make.Scanned.{IsFirstRefusal, NamesOrder, come_in_order, path_or_mark}
pub use Rattle.sst_tool.specs.make.Sorting.{IsSortOf, TellsLineOrder, is_row_before}
pub use Rattle.sst_tool.specs.make.TableFiles.{AreTablesPlaced, IsFreeBehind, RefusesTables}
pub use Rattle.sst_tool.specs.make.TableFiles.{StopsPlacing, TellsEarlier, TellsTableFile, files_from}
pub use Rattle.sst_tool.specs.make.TableFiles.{table_file_name}
pub use Rattle.sst_tool.specs.make.Taken.{TookAll}
pub use Rattle.sst_tool.specs.make.Written.{AreOfLines, AreTablesOf, HasSmallSizes, TookLine, TookLines}
pub use Rattle.sst_tool.specs.make.Written.{TookSorted, options_of, writer_by}

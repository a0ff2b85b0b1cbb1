-- The definitions for contracts of runs that are made, with those of the crates below, so that a
-- file imports them from one module.
pub use Rattle.sst_entries.specs.Entry.{Entry}
pub use Rattle.sst_entries.specs.Error.{Faults, Gives, is_memory}
pub use Rattle.sst_entries.specs.Stream.{first, nowhere, ok_results}
pub use Rattle.sst_blocks.specs.Asked.{result_map}
pub use Rattle.sst_blocks.specs.table.Chunks.{joined}
pub use Rattle.sst_blocks.specs.table.Facts.{highest_seqno}
pub use Rattle.sst_blocks.specs.table.Options.{default_options}
pub use Rattle.lsm_writers.specs.Streamed.{CanPoll, IsAfter}
pub use Rattle.lsm_writers.specs.Tables.{IsFreshRun, TablesWriting, all_written, took}
pub use Rattle.lsm_writers.specs.Tables.{took_fault}
pub use Rattle.lsm_writers.specs.Writing.{IsTableOf, IsWritable, may_be_written}
pub use Rattle.lsm_readers.specs.point.Answer.{lift}
pub use Rattle.lsm_readers.specs.point.Parts.{recovered_result}
pub use Rattle.lsm_readers.specs.Stored.{StoresList}
pub use Rattle.lsm_readers.specs.point.Table.{OpenTable}
pub use Rattle.lsm_runs.specs.RunLists.{YieldTogether, YieldsList, RunsHoldLists}
pub use Rattle.lsm_runs.specs.RunLists.{CanLend, OnLists, OnYieldedLists, RunsHold, TableLists}
pub use Rattle.lsm_runs.specs.RunLists.{each_run}
pub use Rattle.lsm_runs.specs.SeveralRuns.{union_in, union_results}
pub use Rattle.lsm_runs.specs.compaction.AnyRuns.{AreTablesBy, BeginsWith, CameInOrder, CameOf}
pub use Rattle.lsm_runs.specs.compaction.AnyRuns.{YieldsResults, GoesThrough, HasMade}
pub use Rattle.lsm_runs.specs.compaction.AnyRuns.{TookList, first_block_fault, first_blocks_fault}
pub use Rattle.lsm_runs.specs.compaction.AnyRuns.{OnKeptScans, OnMergedScans, OnYieldedResults}
pub use Rattle.lsm_runs.specs.compaction.AnyRuns.{StartsTables, UpToMemory, scans_of}
pub use Rattle.lsm_runs.specs.compaction.Chain.{AreCutOf, AreOpened, AreWritten, FitsAsTables}
pub use Rattle.lsm_runs.specs.compaction.Chain.{IsOpenedOf, IsRunOfList, chain_fault, ids_behind}
pub use Rattle.lsm_runs.specs.compaction.Chain.{OnFinished, OnWritten, run_label, tables_fault}
pub use Rattle.lsm_runs.specs.compaction.Chain.{writes_fault}
pub use Rattle.lsm_runs.specs.compaction.Compacted.{AreCompactable, AreMergeable, AreWrittenBy}
pub use Rattle.lsm_runs.specs.compaction.Compacted.{YieldsWritable, FitsBy, HaveEntries, RunsOn}
pub use Rattle.lsm_runs.specs.compaction.Compacted.{OnCompactable, OnFullLists, OnFullTables, OnKept}
pub use Rattle.lsm_runs.specs.compaction.Compacted.{OnMergeable, kept_in}
pub use Rattle.lsm_runs.specs.compaction.Compacted.{StreamedLaw, rules_by}
pub use Rattle.lsm_runs.specs.compaction.Filtered.{CameFrom, CameTo, CameUntil, CameUpTo}
pub use Rattle.lsm_runs.specs.compaction.Filtered.{CompactsAll}
pub use Rattle.lsm_runs.specs.compaction.Filtered.{FitsKept}
pub use Rattle.lsm_runs.specs.compaction.Filtered.{FitsThroughout, IsWritten, RefusesBy}
pub use Rattle.lsm_runs.specs.compaction.Filtered.{RefusesForMemory, RefusesWritten, WroteUntil}
pub use Rattle.lsm_runs.specs.compaction.Observed.{HasBegun, IsCounted, NotifiesNext, WasNotified}
pub use Rattle.lsm_runs.specs.compaction.Observed.{WasNotifiedUntil}
pub use Rattle.lsm_runs.specs.compaction.OpenedBy.{AreOpenedBy, HasRunBy, IsOpenedBy, IsRunBy}
pub use Rattle.lsm_runs.specs.compaction.OpenedBy.{IfOpens, OnTable, RefusesRun}
pub use Rattle.lsm_runs.specs.compaction.OpenedBy.{list_opened, run_with_fault}
pub use Rattle.lsm_runs.specs.compaction.Unfiltered.{IsUnfiltered, KeepsEach, NeverStops}
pub use Rattle.lsm_runs.specs.compaction.Written.{number_fault, opens_fault}
pub use Rattle.std.specs.Arc.{arc_value}
pub use Rattle.std.specs.List.{AllByRecursion, AllZip}
pub use Rattle.std.specs.Option.{option_map_or}
pub use Rattle.sst_entries.specs.Lending.{entry_of_ref}
pub use Rattle.sst_entries.specs.declared.error.Error.{Error}
pub use Rattle.sst_entries.specs.declared.error.Error.TheVariants.{OutOfMemory}
pub use Rattle.lsm_sorted.specs.version.Packing.{AreInOrder, ArePacked, IsLeastSize}
pub use Rattle.lsm_sorted.specs.version.Packing.{SameHolders}
pub use Rattle.lsm_sorted.specs.version.Packing.{SameTables}
pub use Rattle.lsm_sorted.specs.merge.Ends.{R}
pub use Rattle.lsm_sorted.specs.lending.LentCompaction.{lent_outs}
pub use Rattle.sst_blocks.specs.declared.table.label.Label.{Label}
pub use Rattle.sst_blocks.specs.declared.table.options.Options.{Options}
pub use Rattle.lsm_run_parts.specs.RunParts.{range_of}
pub use Rattle.lsm_runs.specs.RunScan.{tables_scan}
pub use Rattle.lsm_runs.specs.compaction.Packed.{HeldLaw, HoldUnion, KeptLaw, PackedLaw}
pub use Rattle.lsm_runs.specs.compaction.Packed.{PlacesTables, has_table}
pub use Rattle.lsm_runs.specs.compaction.ReadsCompacted.{PointsStay, RangesStay, SideBySide}
pub use Rattle.lsm_runs.specs.compaction.ReadsCompacted.{StayStrict}
pub use Rattle.lsm_runs.specs.compaction.ReadsCompacted.{StayWritable}
pub use Rattle.lsm_runs.specs.declared.compaction.any_runs.CompactionOutcome.TheVariants.{OutOfOrder}
pub use Rattle.lsm_runs.specs.declared.compaction.any_runs.CompactionOutcome.TheVariants.{Stopped}
pub use Rattle.lsm_runs.specs.declared.compaction.any_runs.Ending.TheVariants.{AtDisorder}
pub use Rattle.lsm_runs.specs.declared.compaction.any_runs.Ending.TheVariants.{AtEnd}
pub use Rattle.lsm_runs.specs.declared.compaction.any_runs.Ending.TheVariants.{AtStop}
pub use Rattle.lsm_runs.specs.declared.compaction.observer.CompactionProgress.{CompactionProgress}

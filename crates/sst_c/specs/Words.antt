-- Definitions that the contracts cite, from this crate and those below it.
pub use Rattle.core.specs.List.{slice_get, sum}
pub use Rattle.std.specs.List.{All}
pub use Rattle.core.specs.Option.{option_and_then, option_map}
pub use Rattle.core.specs.Ptr.{as_ptr}
pub use Rattle.std_alloc.specs.Arc.{arc_value}
pub use Rattle.std.specs.Global.{Global as Heap}
pub use Rattle.std.specs.Vec.{vec_capacity, vec_len}
pub use Rattle.sst_entries.specs.Entry.{Entry, entry}
pub use Rattle.sst_entries.specs.Error.{Faults, FaultsFirst, Gives, number_of}
pub use Rattle.sst_entries.specs.Lending.{came, entry_of_ref}
unfoldable pub use Rattle.sst_entries.specs.Point.{point}
pub use Rattle.sst_entries.specs.Stream.{CanYield, nowhere}
pub use Rattle.sst_entries.specs.declared.error.Error.{Error as ErrorValue}
pub use Rattle.sst_entries.specs.declared.error.Error.TheVariants.{OutOfMemory}
pub use Rattle.sst_entries.specs.declared.value_type.ValueType.{ValueType as Kind}
pub use Rattle.sst_blocks.specs.EntryPlace.{IsPlacedIn}
pub use Rattle.sst_blocks.specs.Sections.{body_of}
pub use Rattle.lsm_sorted.specs.version.KeyRange.{is_well_formed}
pub use Rattle.lsm_sorted.specs.version.Packed.{IsPackedOf}
pub use Rattle.lsm_sorted.specs.version.Packing.{AreInOrder, tables_in}
pub use Rattle.lsm_sorted.specs.declared.version.packed.Placed.{Placed as PlacedTable}
pub use Rattle.lsm_writers.specs.Filtering.{IsSmallFilter}
pub use Rattle.lsm_writers.specs.Tables.{IsFreshRun, TablesWriting as TablesWritingValue}
pub use Rattle.lsm_writers.specs.Tables.{all_written}
pub use Rattle.lsm_writers.specs.Writing.{IsSmallIndex, Writing as WritingValue, may_be_written}
pub use Rattle.lsm_writers.specs.Writing.{written}
pub use Rattle.lsm_writers.specs.declared.writer.FinishedTable.{FinishedTable as Finished}
pub use Rattle.lsm_iters.specs.Lift.{lift}
pub use Rattle.lsm_iters.specs.Range.{Range as RangeValue}
pub use Rattle.lsm_readers.specs.point.Answer.{table_answer}
pub use Rattle.lsm_readers.specs.point.Batch.{entries_placed}
pub use Rattle.lsm_readers.specs.point.Many.{many_results}
pub use Rattle.lsm_readers.specs.point.Parts.{early_fault, recovered_result}
pub use Rattle.lsm_readers.specs.point.Table.{OpenTable}
pub use Rattle.lsm_readers.specs.Findings.{IsFirstFinding}
pub use Rattle.lsm_readers.specs.Scan.{IsEndedScan, Scan, ScansLent}
pub use Rattle.lsm_readers.specs.Stored.{StoresList, fits_result}
pub use Rattle.lsm_readers.specs.Verification.{Verifying, verifying}
pub use Rattle.lsm_readers.specs.Verify.{table_early}
unfoldable pub use Rattle.lsm_readers.specs.Verify.{table_found}
pub use Rattle.lsm_runs.specs.RunLists.{RunsHoldLists}
pub use Rattle.lsm_runs.specs.RunPlaces.{placed_in_runs}
pub use Rattle.lsm_runs.specs.RunScan.{early_scan_fault, scan_fault}
pub use Rattle.lsm_runs.specs.SeveralRuns.{runs_read, runs_result, union_in}
pub use Rattle.lsm_runs.specs.Words.{range_of}
pub use Rattle.lsm_runs.specs.compaction.AnyRuns.{GoesThrough}
pub use Rattle.lsm_runs.specs.compaction.AnyRuns.{first_blocks_fault}
pub use Rattle.lsm_runs.specs.compaction.Compacted.{AreMergeable, rules_by}
pub use Rattle.lsm_runs.specs.compaction.Unfiltered.{IsUnfiltered}
pub use Rattle.sst_c.specs.Adds.{AddsOne, AddsMany, WritesEntry, WritesMany, row, row_of}
pub use Rattle.sst_c.specs.Adds.{rows_of_reports, reported_size}
pub use Rattle.sst_c.specs.Codes.{ReportsCode, ReportsFirst, result_code}
pub use Rattle.sst_c.specs.Compact.{CompactsHeld, IsReportedOf, decode_compactor}
unfoldable pub use Rattle.sst_c.specs.Compact.{ReportsOutcome}
pub use Rattle.sst_c.specs.Compacting.{Compacting as CompactionState, StartsCompaction, TakesNext}
pub use Rattle.sst_c.specs.Compacting.{item_taken}
pub use Rattle.sst_c.specs.CompactionSteps.{HandsOut, OpensCompaction, ReportsTable, StepsCompaction}
pub use Rattle.sst_c.specs.CompactionSteps.{StepsHeld}
pub use Rattle.sst_c.specs.Copies.{CopiesEntry, LendsEntry, copy_code, laid_over, lend_code}
pub use Rattle.sst_c.specs.Facts.{table_facts}
pub use Rattle.sst_c.specs.Files.{CopiesFile, CopiesPart, TellsFile, file_at}
unfoldable pub use Rattle.sst_c.specs.Files.{file_facts}
pub use Rattle.sst_c.specs.Handles.{FromHeld, LeadsFromHeld, MakesFrom, OpensFrom, OpensHandle}
pub use Rattle.sst_c.specs.Handles.{OpensNew, OpensNewWithin, OpensWithin, QueriesHandle, ReadsHeld}
pub use Rattle.sst_c.specs.Handles.{ReadsThrough, TakesThrough, UsesSource}
pub use Rattle.sst_c.specs.Handles.{WritesThrough}
pub use Rattle.sst_c.specs.Many.{AnswersHeld, AnswersKeys, GetsMany, GivesMany, ManyResult, answer_at}
pub use Rattle.sst_c.specs.Many.{copy_at_code, keys_cut, lend_at_code, many_kept, points_asked, points_of}
pub use Rattle.sst_c.specs.Many.{queries_for}
unfoldable pub use Rattle.sst_c.specs.Many.{AnswersMany}
pub use Rattle.sst_c.specs.Memory.{ReportsMemory}
pub use Rattle.sst_c.specs.MultiWriting.{AddsToHeld, AddsToTables, FinishesInto, FinishesTables}
pub use Rattle.sst_c.specs.MultiWriting.{HandsOutTable, HasRoomForOne, HoldsNew, ReportsFinished}
pub use Rattle.sst_c.specs.MultiWriting.{ReportsTables, ReportsTaken, ReportsWriting, TakesOldest}
pub use Rattle.sst_c.specs.MultiWriting.{TakesTable, ThroughMultiWriter, WritesToTables}
pub use Rattle.sst_c.specs.Newest.{LentNewestAt, NewestAt, newest_lent}
pub use Rattle.sst_c.specs.Options.{are_usable, decode_default, decode_filter_kind, decode_index_kind}
pub use Rattle.sst_c.specs.Options.{decode_options, decode_writing}
pub use Rattle.sst_c.specs.Packed.{ArePackedOf, CountsRun, FindsLink, FindsPacked}
pub use Rattle.sst_c.specs.PointReads.{GetsFromRuns, GetsFromTable}
pub use Rattle.sst_c.specs.Reads.{IsMergedAs, MergedReads, ReadsOn, StepsRange, StepsScan, TakesRange}
pub use Rattle.sst_c.specs.Reads.{TakesScan, gives_at}
pub use Rattle.sst_c.specs.RunsAdded.{AddsToRuns}
pub use Rattle.sst_c.specs.RunsWithin.{RangesRuns, RangesRunsHeld, ScansRuns, ScansRunsHeld}
pub use Rattle.sst_c.specs.Scans.{ReportsScan, ScansHeld, ScansTable}
pub use Rattle.sst_c.specs.Sentences.{sentence_of}
pub use Rattle.sst_c.specs.Steps.{StepsAs, StepsBy, StepsUntil}
pub use Rattle.sst_c.specs.Stepwise.{ReportsStep, no_progress, progress_result, step_code, step_end}
pub use Rattle.sst_c.specs.Stepwise.{StepsVerification, step_result}
pub use Rattle.sst_c.specs.Takes.{CopiesMany, ReadsMany, TakesMany, bytes_found, bytes_of}
pub use Rattle.sst_c.specs.Reported.{AnswersRead, entry_facts, found_at, found_by, found_in, found_of}
pub use Rattle.sst_c.specs.Reported.{in_runs, in_table, is_settled, kept_in_runs, kept_in_table}
pub use Rattle.sst_c.specs.Reported.{borrowed_in, outcome_of}
pub use Rattle.sst_c.specs.Verify.{ReportsCounts, ReportsFinding, ReportsWrong, VerifiesTable}
pub use Rattle.sst_c.specs.Verify.{VerifiesTableWith, detail_of, fault_number}
pub use Rattle.sst_c.specs.Verify.{finding_result, no_finding, verified_result, verify_code}
pub use Rattle.sst_c.specs.Verify.{verify_result}
unfoldable pub use Rattle.sst_c.specs.Verify.{VerifyAnswers}
pub use Rattle.sst_c.specs.What.{HoldsFiles, IsMergedWhere, IsOpenedAs, IsPackingWhere}
pub use Rattle.sst_c.specs.What.{PacksHeld, RangesHeld, RangesTable, VerifiesHeld}
pub use Rattle.sst_c.specs.What.{IsRangeWhere, IsRangeWithin, IsRunsScanAs, IsRunsScanWhere}
pub use Rattle.sst_c.specs.What.{IsScanWhere, IsVerificationWhere, MergedStepsBy, are_files, are_runs}
pub use Rattle.sst_c.specs.What.{begun, decode_bound, files_held, is_packing, is_range, is_scan, is_table}
pub use Rattle.sst_c.specs.What.{is_verification, many_in, multi_writer_in, packed_chain, packed_runs}
pub use Rattle.sst_c.specs.What.{runs_held, writer_in}
pub use Rattle.sst_c.specs.Writing.{Finishes, decode_kind}
unfoldable pub use Rattle.sst_c.specs.Writing.{AddsFileOf, FaultReported, FinishReported, TookEntry}
pub use Rattle.sst_c.specs.declared.held.FoundEntry.TheVariants.{Lent as IsLent, Kept}
pub use Rattle.sst_c.specs.declared.held.Held.{Held as HeldValue}
pub use Rattle.sst_c.specs.declared.held.What.TheVariants.{MultiWriter as MultiWriterOf}
pub use Rattle.sst_c.specs.declared.held.What.TheVariants.{Merged as MergedOf, Range as RangeOf}
pub use Rattle.sst_c.specs.declared.held.What.TheVariants.{Runs as RunsOf, RunsScan as RunsScanOf}
pub use Rattle.sst_c.specs.declared.held.What.TheVariants.{Scan as ScanOf, Table as TableOf}
pub use Rattle.sst_c.specs.declared.held.What.TheVariants.{Verification as VerificationOf}

-- The definitions for contracts of runs that are read, with those of the crates below, so that a
-- file imports them from one module.
pub use Rattle.sst_entries.specs.Entry.{Entry}
pub use Rattle.sst_entries.specs.Error.{Faults, FaultsFirst, Gives, is_memory}
pub use Rattle.sst_entries.specs.Lending.{came, entry_of_ref}
pub use Rattle.sst_entries.specs.Point.{point, within, lower_place, upper_place}
pub use Rattle.sst_entries.specs.Key.{key_lt}
pub use Rattle.sst_entries.specs.Span.{front_length}
pub use Rattle.sst_entries.specs.Strict.{IsStrict}
pub use Rattle.sst_entries.specs.Stream.{CanYield, Lowers, back_of, first, front_of, nowhere}
pub use Rattle.sst_blocks.specs.Opened.{none_opened}
pub use Rattle.lsm_iters.specs.block_index.Yielded.{YieldsEnding}
pub use Rattle.sst_blocks.specs.table.Facts.{highest_seqno}
pub use Rattle.sst_blocks.specs.table.Options.{default_options}
pub use Rattle.lsm_sorted.specs.merge.Union.{item_cmp, newest}
pub use Rattle.lsm_sorted.specs.version.Run.{ArePlacesOf, IsInOrder, overlap_indexes, table_of_key}
pub use Rattle.lsm_readers.specs.point.Answer.{lift}
pub use Rattle.sst_blocks.specs.Access.{in_memory}
pub use Rattle.lsm_readers.specs.point.Read.{DoesRead, Opens}
pub use Rattle.lsm_readers.specs.point.Table.{OpenTable}
pub use Rattle.lsm_iters.specs.walk.Ends.{taken_at}
pub use Rattle.lsm_sorted.specs.Below.{YieldsBelow, below_of, numbered_below}
pub use Rattle.lsm_sorted.specs.Leading.{leading_of}
pub use Rattle.lsm_sorted.specs.NewestLaws.{AnswersNewest, CanAskNewest, YieldsNewest, IsNewestOf}
pub use Rattle.lsm_run_parts.specs.RunParts.{ends_given, range_of, span_of}
pub use Rattle.lsm_runs.specs.RunRange.{IsRunOf, OpensAtMost, RunGives, back_tables, front_tables}
pub use Rattle.lsm_runs.specs.RunRange.{run_left, run_of, run_size, tables_at}
pub use Rattle.lsm_runs.specs.RunLists.{YieldWithin, YieldsList}
pub use Rattle.lsm_runs.specs.RunLists.{AreRunsInOrder, CanLend, OnLists, RunsHold, RunsHoldLists}
pub use Rattle.lsm_runs.specs.RunLists.{TableLists, each_run, single, span_list}
pub use Rattle.lsm_runs.specs.RunScan.{BeginsNext, BeginsScan, IsScanOf, RunScansNext, ScansItem}
pub use Rattle.lsm_runs.specs.RunScan.{early_scan_fault, lent_of_run, lent_of_scan, over_scan}
pub use Rattle.lsm_runs.specs.RunScan.{run_scan_size, scan_fault, tables_between, tables_scan}
pub use Rattle.lsm_runs.specs.RunYields.{IfEachEnds, IsReaderWithin, ReaderOpensFew, ReaderYields}
pub use Rattle.lsm_runs.specs.RunYields.{ReaderYieldsLeft, ReaderYieldsList, ReadersYield}
pub use Rattle.lsm_runs.specs.RunYields.{RunsYieldAllBelow, RunsYieldNewest, RunsYieldNewestBelow}
pub use Rattle.lsm_runs.specs.RunYields.{SpanOpensFew, SpanScans, SpanScansList, SpanYieldsList}
pub use Rattle.lsm_runs.specs.RunYields.{span_scan}
pub use Rattle.lsm_runs.specs.SpansRead.{AreReadersWithin, IsOverSourcesBelow}
pub use Rattle.lsm_runs.specs.SpansRead.{IsOverSpansBelow, StepsOverSpans}
pub use Rattle.lsm_runs.specs.SpansRead.{with_readers}
pub use Rattle.lsm_runs.specs.SeveralRuns.{LoadsEach, is_older, loads_together, run_read}
pub use Rattle.lsm_runs.specs.SeveralRuns.{run_read_behind, runs_read, runs_read_by_age, runs_result}
pub use Rattle.lsm_runs.specs.SeveralRuns.{union_in, worth_asking}
pub use Rattle.lsm_runs.specs.LentRun.{OpensNext, ReaderLends, RunLends, Stands, lent_of_reader}
pub use Rattle.lsm_runs.specs.LentRun.{over_run}
pub use Rattle.lsm_sorted.specs.LentBelow.{LendsBelow, MayLendBelow, lent_below, lent_passes}
pub use Rattle.lsm_sorted.specs.LentBelow.{only_below}
pub use Rattle.lsm_runs.specs.LentNewestRuns.{LendsNewest, RunsLendNewest}
pub use Rattle.lsm_runs.specs.LentSources.{LendsFirst, SourcesLendNewest}
pub use Rattle.lsm_runs.specs.LentSources.{SourcesYieldAllBelow, SourcesYieldNewestBelow}
pub use Rattle.either.specs.Either.{MatchEither, either}
pub use Rattle.either.specs.Iterator.{either_steps}
pub use Rattle.std.specs.Arc.{arc_value}
pub use Rattle.std.specs.Iterator.{IsFinite, at_most}
pub use Rattle.std.specs.Option.{option_and_then, option_map}
pub use Rattle.sst_entries.specs.declared.error.Error.{Error}
pub use Rattle.sst_entries.specs.declared.error.Error.TheVariants.{OutOfMemory}
pub use Rattle.sst_entries.specs.declared.stream.Direction.TheVariants.{Front}
pub use Rattle.sst_blocks.specs.filter.KeyHash.{hash_of}
pub use Rattle.sst_blocks.specs.Asked.{result_map}
pub use Rattle.lsm_iters.specs.walk.Walks.{WalkTakes}
pub use Rattle.lsm_iters.specs.Range.{range_remains}
pub use Rattle.lsm_iters.specs.Steps.{without_lent}
pub use Rattle.lsm_run_parts.specs.Tables.{KeepsTables, coming_tables}
pub use Rattle.lsm_runs.specs.RunPlaces.{IsThere, OnEntryStored, ReadsPlace, entry_stored, run_place}
pub use Rattle.lsm_runs.specs.RunPlaces.{placed_in_run, placed_in_runs}

-- The words that contracts of these calls cite, so that a caller's contract asks for them in one
-- place.
pub use Rattle.sst_entries.specs.Entry.{Entry, entry}
pub use Rattle.sst_entries.specs.Error.{Faults, FaultsFirst, Gives, Refuses, is_memory, number_of}
pub use Rattle.sst_entries.specs.Key.{same_key}
pub use Rattle.sst_entries.specs.Kind.{is_weak_kind}
pub use Rattle.sst_entries.specs.Point.{is_from, is_hit, is_to, read_place, within}
unfoldable pub use Rattle.sst_entries.specs.Point.{point}
pub use Rattle.sst_entries.specs.Span.{front_length}
pub use Rattle.sst_entries.specs.Lending.{came, entry_cmp, entry_of_ref}
pub use Rattle.sst_entries.specs.Stream.{CanYield, YieldsExactly, answer_stops, nowhere, ok_results}
pub use Rattle.sst_entries.specs.Strict.{IsStrict, is_before, version_cmp}
pub use Rattle.sst_entries.specs.Strict.{may_follow}
unfoldable pub use Rattle.sst_entries.specs.Strict.{IsStrictAfter}
pub use Rattle.sst_entries.specs.declared.error.Error.{Error}
pub use Rattle.sst_entries.specs.declared.error.Error.TheVariants.{KeyTooLong, OutOfMemory}
pub use Rattle.sst_entries.specs.declared.error.Error.TheVariants.{SeqNoOverflow, ValueTooLong}
pub use Rattle.sst_entries.specs.declared.value_type.ValueType.{ValueType}
pub use Rattle.sst_entries.specs.declared.value_type.ValueType.TheVariants.{Tombstone, Value}
pub use Rattle.lsm_sorted.specs.version.Packing.{AreInOrder, IsLeastSize, SameTables}
pub use Rattle.lsm_sorted.specs.version.Run.{IsInOrder}
pub use Rattle.lsm_sorted.specs.merge.InPlace.{merge_of}
pub use Rattle.lsm_sorted.specs.merge.Union.{Ascends, all_entries, entries_among, newest}
pub use Rattle.lsm_sorted.specs.merge.Union.{sort_entries}
pub use Rattle.lsm_sorted.specs.Below.{numbered_below}
pub use Rattle.lsm_sorted.specs.Compaction.{kept, unfiltered, zeroed}
pub use Rattle.lsm_sorted.specs.lending.LentCompaction.{lent_outs}
pub use Rattle.lsm_sorted.specs.Point.{seen, shown}
pub use Rattle.lsm_sorted.specs.ReadLaw.{AllNewer, Distinct}
pub use Rattle.lsm_sorted.specs.declared.compaction.Rules.{Rules}
pub use Rattle.sst_blocks.specs.table.Chunks.{joined}
pub use Rattle.sst_blocks.specs.table.Facts.{highest_seqno, is_weak}
pub use Rattle.sst_blocks.specs.table.Options.{default_options, label_of}
pub use Rattle.sst_blocks.specs.table.Table.{IsTable}
pub use Rattle.sst_blocks.specs.declared.table.label.Label.{Label}
pub use Rattle.lsm_writers.specs.Tables.{AreTables, IsFreshRun}
pub use Rattle.lsm_writers.specs.Writing.{IsTableOf, IsWritable}
pub use Rattle.lsm_readers.specs.point.Answer.{lift}
pub use Rattle.lsm_readers.specs.Stored.{Matches, StoresList}
pub use Rattle.lsm_readers.specs.point.Table.{OpenTable}
unfoldable pub use Rattle.lsm_readers.specs.Verify.{table_found}
pub use Rattle.lsm_readers.specs.point.Parts.{recovered_result}
pub use Rattle.sst_blocks.specs.Sections.{body_of}
pub use Rattle.lsm_readers.specs.declared.verify.Finding.{Finding}
pub use Rattle.lsm_readers.specs.Verification.{bytes_read, steps_of, verifying}
pub use Rattle.lsm_runs.specs.RunLists.{AreRunsInOrder, OnLists, RunsHold, TableLists, each_run}
pub use Rattle.lsm_runs.specs.RunLists.{YieldWithin, YieldsList, HoldLists, HoldsList, RunsHoldLists}
pub use Rattle.lsm_runs.specs.LentSources.{LendsFirst}
pub use Rattle.lsm_runs.specs.RunLists.{CanLend, YieldTogether, single}
pub use Rattle.lsm_run_parts.specs.RunParts.{range_of}
pub use Rattle.lsm_runs.specs.SeveralRuns.{runs_result, union_in}
pub use Rattle.lsm_sorted.specs.Leading.{leading_of}
pub use Rattle.lsm_runs.specs.SpansRead.{IsOverSpans}
pub use Rattle.lsm_runs.specs.compaction.AnyRuns.{AreTablesBy, BeginsWith, CameInOrder, CameOf}
pub use Rattle.lsm_runs.specs.compaction.AnyRuns.{GoesThrough, HasMade, LeavesOrder, RefusesOf}
pub use Rattle.lsm_runs.specs.compaction.AnyRuns.{WritesSome, scans_of}
pub use Rattle.lsm_runs.specs.compaction.Chain.{AreCutOf, FitsAsTables, IsRunOfList, chain_fault}
pub use Rattle.lsm_runs.specs.compaction.Chain.{both_fault, ids_behind, run_label, tables_fault}
pub use Rattle.lsm_runs.specs.compaction.Compacted.{AreCompactable, AreMergeable, AreWrittenBy}
pub use Rattle.lsm_runs.specs.compaction.Compacted.{HaveEntries, OnFullLists, OnFullTables}
pub use Rattle.lsm_runs.specs.compaction.Compacted.{kept_in, rules_by}
pub use Rattle.lsm_runs.specs.compaction.Filtered.{CameTo, CameUntil, CameUpTo, RefusesBy}
pub use Rattle.lsm_runs.specs.compaction.ListRuns.{HasList, HaveAll}
pub use Rattle.lsm_runs.specs.compaction.OpenedBy.{AreOpenedBy, HasRunBy, IsOpenedBy, IsRunBy}
pub use Rattle.lsm_runs.specs.compaction.OpenedBy.{default_opening, run_with_fault}
pub use Rattle.lsm_runs.specs.compaction.Observed.{WasNotified, WasNotifiedUntil}
pub use Rattle.lsm_runs.specs.compaction.Packed.{HoldUnion}
pub use Rattle.lsm_runs.specs.compaction.ReadsCompacted.{AreReplaced, all_shown, joined_in}
pub use Rattle.lsm_runs.specs.compaction.Written.{IsOpened, number_fault, opening_fault}
pub use Rattle.lsm_runs.specs.compaction.PartReads.{HoldSides, ReadsKept, ReadsOf, ShowAlike}

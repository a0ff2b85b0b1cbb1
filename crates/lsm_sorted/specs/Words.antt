-- The definitions for contracts of compactions, with those of the crates below, so that a file
-- imports them from one module.
pub use Rattle.sst_entries.specs.Entry.{Entry, entry}
pub use Rattle.sst_entries.specs.Key.{key_cmp, key_lt, same_key}
pub use Rattle.sst_entries.specs.Stream.{CanYield, EndsAtError, Lowers, Steps, YieldsExactly}
pub use Rattle.sst_entries.specs.Stream.{YieldsFirst, YieldsLast, answer_stops, back_of, front_of}
pub use Rattle.sst_entries.specs.Stream.{nowhere}
pub use Rattle.lsm_sorted.specs.merge.Ends.{Asked, CanAdvance, Goes, Left, R, YieldsAt, ends_size}
pub use Rattle.lsm_sorted.specs.merge.Ends.{new_ends}
pub use Rattle.lsm_sorted.specs.Ahead.{HoldsAhead, ahead_outlook, ahead_size}
pub use Rattle.lsm_sorted.specs.Outlook.{IsStep, before_any}
pub use Rattle.lsm_sorted.specs.Hears.{Hears}
pub use Rattle.lsm_sorted.specs.Verdicts.{said, verdict_of}
pub use Rattle.lsm_sorted.specs.Compaction.{Verdict, goes, is_value, keep, reports_by, told_by}
pub use Rattle.lsm_sorted.specs.Compaction.{zeroed}
pub use Rattle.lsm_sorted.specs.Compacting.{Asks, GetsAll}
pub use Rattle.lsm_sorted.specs.CompactionState.{Compacts, CompactsHeard, CompactsNext}
pub use Rattle.lsm_sorted.specs.CompactionState.{CompactsWhole, DrainsFrom, DrainsIn, Filters, HearsAhead}
pub use Rattle.lsm_sorted.specs.CompactionState.{GivesOuts, MayCompact, SettlesFrom, SettlesIn}
pub use Rattle.lsm_sorted.specs.CompactionState.{YieldsKept, YieldsOuts, answer_of, callback_of}
pub use Rattle.lsm_sorted.specs.CompactionState.{compaction_outlook, compaction_size, failure}
pub use Rattle.lsm_sorted.specs.CompactionState.{filter_of, rules_of, source_of}
pub use Rattle.lsm_sorted.specs.ReadLaw.{PartLaw, ReadLaw, StaysStrict}
pub use Rattle.std.specs.Borrow.{Lends, sem}
pub use Rattle.std.specs.Cmp.{eq_by_cmp_equiv, partial_equiv_from_equiv, partial_order_from_total}
pub use Rattle.std.specs.Cmp.Lexicographic.{lists_equiv, lists_per, pointwise, slice_cmp}
pub use Rattle.std.specs.Fn.{CalledAt}
pub use Rattle.std.specs.Iterator.{IsFinite, MakesProgress, at_most}
pub use Rattle.std.specs.List.{list_any}
pub use Rattle.std.specs.List.Retain.{IsFiltered}
pub use Rattle.std.specs.Option.{option_copied, option_map}
pub use Rattle.std.specs.Ordering.{as_partial_cmp, eq_by_cmp, is_gt, is_lt, nat_cmp}
pub use Rattle.std.specs.Vec.{vec_capacity}
pub use Rattle.sst_entries.specs.Kind.{is_tombstone_kind}
pub use Rattle.sst_entries.specs.Lending.{came, entry_of_ref}
pub use Rattle.sst_entries.specs.Point.{is_from, is_to}
pub use Rattle.sst_entries.specs.Strict.{IsStrict}
pub use Rattle.sst_entries.specs.declared.error.Error.{Error}
pub use Rattle.sst_entries.specs.declared.error.Error.TheVariants.{OutOfMemory}
pub use Rattle.sst_entries.specs.declared.stream.Direction.{Direction}
pub use Rattle.sst_entries.specs.declared.stream.Direction.TheVariants.{Back, Front}
pub use Rattle.lsm_sorted.specs.Below.{GivesBelow, MayAsk, MayStartBelow, YieldsBelow, YieldsItsBelow}
pub use Rattle.lsm_sorted.specs.Below.{below_of}
pub use Rattle.lsm_sorted.specs.Gap.{ErrorsLeaveGap, MergesUpToGap}
pub use Rattle.lsm_sorted.specs.Leading.{leading_of}
pub use Rattle.lsm_sorted.specs.LentBelow.{LendsBelow, MayLendBelow, lent_below, lent_passes}
pub use Rattle.lsm_sorted.specs.LentBelow.{only_below}
pub use Rattle.lsm_sorted.specs.Mvcc.{AnswersSteps, CanStep, CanStepForward, MayStep, OnItsSource, StepsAt}
pub use Rattle.lsm_sorted.specs.Mvcc.{YieldsNewestOf, YieldsSteps, mvcc_outlook, mvcc_size, read_from}
pub use Rattle.lsm_sorted.specs.Newest.{back_step, front_step}
pub use Rattle.lsm_sorted.specs.NewestLaws.{AnswersNewest, CanAskForward, CanAskNewest, IsNewestOf}
pub use Rattle.lsm_sorted.specs.NewestLaws.{IsOverMerged, MayStartNewest, YieldsNewest}
pub use Rattle.lsm_sorted.specs.NewestLaws.{YieldsNewestUntilError}
pub use Rattle.lsm_sorted.specs.Peeked.{peeked_outlook, peeked_size}
pub use Rattle.lsm_sorted.specs.declared.compaction.lending.Lends.TheVariants.{Nothing}
pub use Rattle.lsm_sorted.specs.declared.version.optimize.Link.{Link}
pub use Rattle.lsm_sorted.specs.lending.Lent.{AdvancesLent, AsksOne, Belongs, IsHead, IsPrefix}
pub use Rattle.lsm_sorted.specs.lending.Lent.{IsReady, LendsNoMore, MayLend, StartsLent, StepLowers}
pub use Rattle.lsm_sorted.specs.lending.Lent.{StepsOn, goes_before, is_queued, is_turn}
pub use Rattle.lsm_sorted.specs.lending.Lent.{sorts_before, lent_of, lent_first, lent_size, lent_total, queued}
pub use Rattle.lsm_sorted.specs.lending.LentCompaction.{AdvancesCompacted, CompactsLent}
pub use Rattle.lsm_sorted.specs.lending.LentCompaction.{CompactsLentResults, FetchesCompacted}
pub use Rattle.lsm_sorted.specs.lending.LentCompaction.{MayLendCompacted, SettlesCompacted, SettlesLent}
pub use Rattle.lsm_sorted.specs.lending.LentCompaction.{SettlesWaiting}
pub use Rattle.lsm_sorted.specs.lending.LentCompaction.{StepsCompacted, YieldsCompactedEntries}
pub use Rattle.lsm_sorted.specs.lending.LentCompaction.{YieldsCompactedResults, compacted_left}
pub use Rattle.lsm_sorted.specs.lending.LentCompaction.{fresh_of, has_to_wait, lender}
pub use Rattle.lsm_sorted.specs.lending.LentCompaction.{lent_callback, lent_compacted, lent_filter}
pub use Rattle.lsm_sorted.specs.lending.LentCompaction.{one_more_if, put_into}
pub use Rattle.lsm_sorted.specs.lending.LentFaults.{AlwaysReports, FilterSays, PassesAll}
pub use Rattle.lsm_sorted.specs.lending.LentFaults.{PassesAllOr, StaysOver, StaysOverOr}
pub use Rattle.lsm_sorted.specs.lending.LentNewest.{AdvancesNewest, MayNewest, YieldsNewestEntries}
pub use Rattle.lsm_sorted.specs.lending.LentNewest.{YieldsNewestResults, given_key, is_given}
pub use Rattle.lsm_sorted.specs.lending.LentNewest.{is_other, lent_newest, newest_left}
pub use Rattle.lsm_sorted.specs.lending.LentNewest.{newest_lender}
pub use Rattle.lsm_sorted.specs.merge.Asks.{AsksSource, Calls, Fills, HoldsNone, IsMergerOf, Pops}
pub use Rattle.lsm_sorted.specs.merge.Asks.{made_ready}
pub use Rattle.lsm_sorted.specs.merge.Bag.{IsGreatest, IsLeast}
pub use Rattle.lsm_sorted.specs.merge.Brackets.{AreKept, IsBracket, IsKept, IsUnbeaten, IsUnplayed}
pub use Rattle.lsm_sorted.specs.merge.Brackets.{IsWon, PlaysEnd, WasWon, is_beaten, is_played_at, most_steps}
pub use Rattle.lsm_sorted.specs.merge.Intervals.{InOrder, IsChildEnd, IsEnd, IsIntervalHeap}
pub use Rattle.lsm_sorted.specs.merge.Intervals.{IsRisingAt, IsRoot, IsSinkingAt, PrecedesOn}
pub use Rattle.lsm_sorted.specs.merge.Intervals.{SinksFrom, above_of}
pub use Rattle.lsm_sorted.specs.merge.Merge.{Adds, HasPlaces, HoldsAtMost, LowersTotal, MayMerge}
pub use Rattle.lsm_sorted.specs.merge.Merge.{SameRoom, entry_of, is_ready, merge_size, turn_cmp}
pub use Rattle.lsm_sorted.specs.merge.Merge.{turn_total}
pub use Rattle.lsm_sorted.specs.merge.MergeLaws.{CanMerge, CanMergeForward, MeetsErrorsLate, OfItsSources}
pub use Rattle.lsm_sorted.specs.merge.MergeLaws.{YieldsBeforeErrors, YieldsInPlace, YieldsMerged, YieldsUntilError}
pub use Rattle.lsm_sorted.specs.merge.Order.{toward}
pub use Rattle.lsm_sorted.specs.merge.Slots.{occupants, slot_at}
pub use Rattle.lsm_sorted.specs.merge.Tournament.{PlaysAtMost, PlaysFrom, SameEnds, first_round}
pub use Rattle.lsm_sorted.specs.merge.Tournament.{height, rematches, total_height}
pub use Rattle.lsm_sorted.specs.merge.Union.{IsUnion, item_cmp, union_of}
pub use Rattle.lsm_sorted.specs.version.KeyRange.{Interval, IsAggregate, IsOutside, ShareKey}
pub use Rattle.lsm_sorted.specs.version.KeyRange.{are_disjoint, has_key, has_range, interval}
pub use Rattle.lsm_sorted.specs.version.KeyRange.{intervals, is_well_formed, key_bound, key_le}
pub use Rattle.lsm_sorted.specs.version.KeyRange.{overlaps, overlaps_bounds}
pub use Rattle.lsm_sorted.specs.version.LinkedRuns.{AddsLinks, AreAtPlaces, AreEarlier, ArePackedLinks}
pub use Rattle.lsm_sorted.specs.version.LinkedRuns.{FindsLinkTo, IsBelow, link_range}
pub use Rattle.lsm_sorted.specs.version.Links.{IsStack, TableWithPlace, run_with_places}
pub use Rattle.lsm_sorted.specs.version.Links.{runs_with_places}
pub use Rattle.lsm_sorted.specs.version.Packed.{IsPackedOf, alone, indexed}
pub use Rattle.lsm_sorted.specs.version.Packing.{AddsTables, AreDisjointRuns, AreInOrder}
pub use Rattle.lsm_sorted.specs.version.Packing.{AreNotEmpty, ArePacked, ArePlaced}
pub use Rattle.lsm_sorted.specs.version.Packing.{AreTablesWellFormed, AreWellFormed, IsChain}
pub use Rattle.lsm_sorted.specs.version.Packing.{IsLeastSize, SameHolders, SameTables}
pub use Rattle.lsm_sorted.specs.version.Packing.{count_to_last, put, put_all, tables_in, touches}
pub use Rattle.lsm_sorted.specs.version.Packing.{with_table}
pub use Rattle.lsm_sorted.specs.version.Run.{ArePlacesOf, IsInOrder, IsPartOf, IsSortedByMin}
pub use Rattle.lsm_sorted.specs.version.Run.{IsStableByMin, are_in_order, ends_before, ends_within}
pub use Rattle.lsm_sorted.specs.version.Run.{first_to_last, how_many, may_come_next}
pub use Rattle.lsm_sorted.specs.version.Run.{overlap_indexes, starts_before, starts_within}
pub use Rattle.lsm_sorted.specs.version.Run.{table_of_key, tables_across, tables_inside}

-- The definitions that contracts of readers cite.
pub use Rattle.sst_entries.specs.Entry.{Entry}
pub use Rattle.sst_entries.specs.Error.{Faults, FaultsFirst, Gives}
pub use Rattle.sst_entries.specs.Point.{point, within}
pub use Rattle.sst_entries.specs.Stream.{CanYield, YieldsExactly, answer_stops, front_of, nowhere}
pub use Rattle.sst_blocks.specs.Access.{IsInMemory, IsKnown, in_memory}
pub use Rattle.sst_blocks.specs.filter.KeyHash.{hash_of}
pub use Rattle.sst_blocks.specs.Sections.{body_of}
pub use Rattle.sst_blocks.specs.Block.{Loaded, entries_of, load_at_result, load_result, place_fault}
pub use Rattle.sst_blocks.specs.Block.{position_fault}
pub use Rattle.sst_blocks.specs.Handle.{Handle}
pub use Rattle.sst_blocks.specs.Opened.{none_opened, with_load}
pub use Rattle.sst_blocks.specs.Place.{Place, place_of}
pub use Rattle.sst_blocks.specs.filter.Filter.{BloomFilter}
pub use Rattle.lsm_sorted.specs.version.KeyRange.{Interval, key_bound, overlaps_bounds}
pub use Rattle.sst_blocks.specs.table.Table.{IsTable}
pub use Rattle.lsm_iters.specs.block_index.Kinds.{IsSought, index_of as index_read, left_of}
pub use Rattle.lsm_readers.specs.BlockIndexes.{AreCutAlike, NamesBlocksOf, ReadAlike}
pub use Rattle.lsm_readers.specs.BlockIndexes.{StoresItsBlocks, table_index}
pub use Rattle.lsm_readers.specs.point.Answer.{LoadsFew, admission, admitted_handle}
pub use Rattle.lsm_readers.specs.point.Answer.{block_admits, filter_admits, lift, lifted, match_at}
pub use Rattle.lsm_readers.specs.point.Answer.{answer_by, parts_admit, table_answer}
pub use Rattle.lsm_readers.specs.point.IndexKinds.{handle_by, handle_in_block, handles_result}
pub use Rattle.lsm_readers.specs.point.IndexKinds.{index_kind_of, index_len, index_over}
pub use Rattle.lsm_readers.specs.point.IndexKinds.{index_result, kind_for, kind_kept, on_each_read}
pub use Rattle.lsm_readers.specs.point.IndexKinds.{partitioned, pinned_index_of, volatile}
pub use Rattle.lsm_readers.specs.OfList.{SaysList, ends_of, list_result}
pub use Rattle.lsm_readers.specs.point.Parts.{OnBytes, Parts, early_fault, early_in, facts_fitting}
pub use Rattle.lsm_readers.specs.point.Parts.{filter_len, filter_result, fitting_result}
pub use Rattle.lsm_readers.specs.point.Parts.{parts_result, pinned_filter, pinned_result}
pub use Rattle.lsm_readers.specs.point.Parts.{place_size, places_result, recovered_result}
pub use Rattle.lsm_readers.specs.point.Parts.{tops_result}
pub use Rattle.lsm_readers.specs.point.Read.{DoesRead, Opens, ReadsFrom}
pub use Rattle.lsm_readers.specs.Scan.{EndsAtErrors, IsNewScan, LendsList, OpensNextBlock, Scan, ScanYields}
pub use Rattle.lsm_readers.specs.Scan.{ScansLent, ScansList, ScansNext, table_scan}
pub use Rattle.lsm_readers.specs.Scan.{block_result, ended, fault_of, lend_next, lifted_result}
pub use Rattle.lsm_readers.specs.Scan.{scan_results, scan_size}
pub use Rattle.lsm_readers.specs.point.Meta.{facts_of, first_byte_result, meta_item_result}
pub use Rattle.lsm_readers.specs.point.Meta.{meta_result, number16_result, number8_result}
pub use Rattle.lsm_readers.specs.point.Meta.{one_byte_result, version_number_result}
pub use Rattle.lsm_readers.specs.Stored.{FindsInList, Matches, StoresList, fits_result}
pub use Rattle.lsm_readers.specs.point.Table.{IsOpen, IsRecovered, OpenTable, OpenedWith, parts_of}
pub use Rattle.lsm_readers.specs.point.Table.{table_of}
pub use Rattle.lsm_readers.specs.point.Table.{pinned_of}
pub use Rattle.lsm_iters.specs.block_index.Yielded.{YieldsEnding}
pub use Rattle.lsm_readers.specs.Ranges.{IsRangeOf, LoadsAtMost, RangeLoadsFew, RangeYields}
pub use Rattle.lsm_readers.specs.Ranges.{RangeYieldsAll, RangeYieldsList, YieldsAll, YieldsWithin}
pub use Rattle.lsm_readers.specs.Ranges.{blocks_within, index_within, range_results}
pub use Rattle.std.specs.Arc.{arc_value}
pub use Rattle.std.specs.Iterator.{IsFinite, at_most}
pub use Rattle.std.specs.List.{All, slice_get}
pub use Rattle.std.specs.Option.{option_map}
pub use Rattle.std.specs.Result.{IsErrAnd}
pub use Rattle.std.specs.declared.ops.Bound.{Bound}
pub use Rattle.std.specs.declared.ops.Bound.TheVariants.{Unbounded}
pub use Rattle.sst_entries.specs.Lending.{entry_of_ref}
pub use Rattle.sst_entries.specs.Strict.{may_follow}
pub use Rattle.sst_entries.specs.declared.error.Error.{Error}
pub use Rattle.sst_entries.specs.declared.error.Error.TheVariants.{GlobalSeqNoTooLarge}
pub use Rattle.sst_blocks.specs.Asked.{result_map}
pub use Rattle.sst_blocks.specs.EntryPlace.{IsPlacedIn, entry_placed, placed_in}
pub use Rattle.sst_blocks.specs.Fnv.{fnv1a}
pub use Rattle.sst_blocks.specs.Starts.{HoldsEntries}
pub use Rattle.sst_blocks.specs.declared.block_type.BlockType.TheVariants.{Data, Index, Meta}
pub use Rattle.sst_blocks.specs.table.Facts.{is_reclaimable, is_weak, starts_key}
pub use Rattle.lsm_iters.specs.Bounds.{lower_edge, upper_edge}
pub use Rattle.lsm_iters.specs.block_index.Index.{on_demand, two_level}
pub use Rattle.lsm_iters.specs.block_index.Left.{LeftGives}
pub use Rattle.lsm_readers.specs.Findings.{IsFirstFinding}
pub use Rattle.lsm_readers.specs.Handles.{handles_ahead}
pub use Rattle.lsm_readers.specs.Verification.{EndsCalmly, GoesOne, IsThrough, ReadsNext}
pub use Rattle.lsm_readers.specs.Verification.{StepsCalmly, ahead_of, before_index, bytes_read}
pub use Rattle.lsm_readers.specs.Verification.{chunk_early, end_early, filters_from, in_index, next_found}
pub use Rattle.lsm_readers.specs.Verification.{next_size, places_in, step_early, steps_of}
pub use Rattle.lsm_readers.specs.Verification.{verifying}
unfoldable pub use Rattle.lsm_readers.specs.Verification.{partition_found, rest_found}
pub use Rattle.lsm_readers.specs.Verify.{Finds, FindsFirst, Misses, Unread as UnreadLeft, admitted}
pub use Rattle.lsm_readers.specs.Verify.{chunk_found, early_at, end_named}
pub use Rattle.lsm_readers.specs.Verify.{filter_found, finding}
pub use Rattle.lsm_readers.specs.Verify.{first_found, handles_found, is_found, key_found, key_same}
pub use Rattle.lsm_readers.specs.Verify.{last_named, load_refusal, order_found, other_checksum}
pub use Rattle.lsm_readers.specs.Verify.{passed, place_found, same_found, spent, table_early}
pub use Rattle.lsm_readers.specs.Verify.{top_named, unnamed_found, unread_of, verified_of}
unfoldable pub use Rattle.lsm_readers.specs.Verify.{block_found, block_spent}
unfoldable pub use Rattle.lsm_readers.specs.Verify.{blocks_found, contents_found, counted_found}
unfoldable pub use Rattle.lsm_readers.specs.Verify.{counts_found, end_found, entries_found}
unfoldable pub use Rattle.lsm_readers.specs.Verify.{entry_found, entry_spent, entry_tested}
unfoldable pub use Rattle.lsm_readers.specs.Verify.{table_found}
pub use Rattle.lsm_readers.specs.declared.meta.Numbers.{Numbers}
pub use Rattle.lsm_readers.specs.declared.verify.Counts.{Counts as CountsLeft}
pub use Rattle.lsm_readers.specs.declared.verify.Finding.{Finding}
pub use Rattle.lsm_readers.specs.declared.verify.Verified.{Verified as Verification}
pub use Rattle.lsm_readers.specs.declared.verify.VerifyError.TheVariants.{Found}
pub use Rattle.lsm_readers.specs.point.Batch.{AreFound, IsLookup, entries_by}
pub use Rattle.lsm_readers.specs.point.Batch.{entries_placed, placed_entry, query_in, query_result}
pub use Rattle.lsm_readers.specs.point.Keeping.{IsLoaded, KeepsOf}
pub use Rattle.lsm_readers.specs.point.Many.{answers_to, many_results, points}
unfoldable pub use Rattle.lsm_readers.specs.point.Meta.{byte_result, compressions_result}
unfoldable pub use Rattle.lsm_readers.specs.point.Meta.{created_result, facts_result, first_result}
unfoldable pub use Rattle.lsm_readers.specs.point.Meta.{item_result, keys_result, kinds_result}
unfoldable pub use Rattle.lsm_readers.specs.point.Meta.{numbers_result, rest_result, seqnos_result}
unfoldable pub use Rattle.lsm_readers.specs.point.Meta.{u64_result, version_result}
pub use Rattle.lsm_readers.specs.point.Regions.{needed_result, optional_result, region_result}
unfoldable pub use Rattle.lsm_readers.specs.point.Regions.{regions_result}

-- Lemmas that proofs of callers cite, so that they ask for them in one place.
pub use Rattle.sst_entries.specs.Kind.{is_weak_kind}
pub use Rattle.sst_entries.specs.Stream.{but_first, first, nowhere}
pub use Rattle.sst_entries.specs.Strict.{may_follow}
pub use Rattle.sst_entries.proofs.Booleans.{and_false, apart, is_false}
pub use Rattle.sst_entries.proofs.KeyLemmas.{hit_key, lt_other, same_itself}
pub use Rattle.sst_entries.proofs.Lists.{all_append, all_behind, all_front, all_more}
pub use Rattle.sst_entries.proofs.OrderLemmas.{before_trans, number_total, strict_at}
pub use Rattle.sst_entries.proofs.Refusals.{memory_is}
pub use Rattle.sst_entries.proofs.StreamLemmas.{can_front, can_now, yields_front, map_append}
pub use Rattle.sst_entries.proofs.VecSource.{vec_yields}
pub use Rattle.sst_blocks.proofs.Points.{parted, past_parted, read_hit, read_other, read_past}
pub use Rattle.sst_blocks.specs.table.Facts.{is_weak}
unfoldable pub use Rattle.sst_blocks.specs.table.Facts.{highest_seqno}
pub use Rattle.lsm_writers.proofs.Refused.{memory_alone}
pub use Rattle.lsm_sorted.specs.merge.MergeLaws.{YieldsMerged}
pub use Rattle.lsm_sorted.specs.merge.Union.{Ascends}
pub use Rattle.lsm_sorted.proofs.HeldLemmas.{count_no, none_counted}
pub use Rattle.lsm_sorted.proofs.MergedLemmas.{all_in_order, all_inserted, all_sorted_in}
pub use Rattle.lsm_sorted.proofs.Pairs.{AllBefore, as_pairs, from_pairs, pairs_of, precedes_of}
pub use Rattle.lsm_sorted.proofs.Pairs.{strict_from}
pub use Rattle.lsm_sorted.proofs.UnionLemmas.{ascends_in_order}
pub use Rattle.lsm_sorted.proofs.KeptLemmas.{all_kept, zeroed_below}
pub use Rattle.lsm_sorted.proofs.PartLemmas.{reads_alike_of_part}
pub use Rattle.lsm_sorted.proofs.ReadLemmas.{reads_alike}
pub use Rattle.lsm_iters.proofs.Cuts.{all_within}
pub use Rattle.lsm_sorted.specs.version.Run.{are_in_order}
pub use Rattle.lsm_readers.specs.Stored.{fits_result}
pub use Rattle.lsm_readers.specs.point.Table.{IsOpen}
pub use Rattle.lsm_runs.specs.RunLists.{YieldTogether}
pub use Rattle.lsm_runs.specs.RunScan.{RunScan, RunScansNext, tables_scan}
pub use Rattle.lsm_runs.proofs.Leading.{IsOfKey, leading_sorted, leads_older, point_of_key}
pub use Rattle.lsm_runs.proofs.OneList.{one_way}
pub use Rattle.lsm_runs.proofs.Rising.{ascends_of, run_strict}
pub use Rattle.lsm_runs.proofs.RunLoops.{all_at}
pub use Rattle.lsm_runs.proofs.RunPoints.{runs_in_order}
pub use Rattle.lsm_runs.proofs.Shares.{shared_all, shared_more}
pub use Rattle.lsm_runs.proofs.Together.{all_of, zip_push}
pub use Rattle.lsm_runs.proofs.Unions.{entries_joined, entries_of, filter_ascends}
pub use Rattle.lsm_runs.specs.compaction.Chain.{AreOpened}
pub use Rattle.lsm_runs.specs.compaction.Compacted.{HaveEntries}
pub use Rattle.lsm_runs.proofs.CompactedBack.{lift_zero, small_numbers}
pub use Rattle.lsm_runs.proofs.ListRuns.{of_cut_unlifted}
pub use Rattle.lsm_runs.proofs.Replaced.{points, side_by_side, union_count, union_up}
pub use Rattle.lsm_runs.proofs.Scanners.{merged_together, scan_asked, scan_wants}
pub use Rattle.lsm_runs.proofs.Scanners.{tables_there, whole_places, whole_run}
pub use Rattle.lsm_runs.proofs.ShownRanges.{ranges_by_points}
pub use Rattle.lsm_runs.proofs.StaysWritable.{writable_after}
pub use Rattle.lsm_runs.proofs.Versions.{at, count_join, distinct_once, once_strict}
pub use Rattle.lsm_runs.proofs.Versions.{strict_once}
pub use Rattle.lsm_tables.proofs.Shares.{share_all, share_next, share_none}

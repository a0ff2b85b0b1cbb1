-- The definitions that clauses cite, with those of the crates below, from one place.
pub use Rattle.std.specs.Arc.{arc_value}
pub use Rattle.std.specs.Iterator.{IsFinite}
pub use Rattle.std.specs.List.{AllByRecursion}
pub use Rattle.std.specs.Option.{option_copied, option_map}
pub use Rattle.std.specs.Result.{IsOkAnd}
pub use Rattle.lsm_tables.specs.Words.{AreCompactable, AreCutOf, AreInOrder, CanLend, CanYield}
pub use Rattle.lsm_tables.specs.Words.{YieldTogether, may_follow}
pub use Rattle.lsm_tables.specs.Words.{YieldsList, Entry, Gives, HasList, HaveAll, HaveEntries}
pub use Rattle.lsm_tables.specs.Words.{HoldLists, HoldUnion, IsInOrder, IsLeastSize, IsStrict}
pub use Rattle.lsm_tables.specs.Words.{IsWritable, OpenTable, Refuses, RunsHold, RunsHoldLists, SameTables}
pub use Rattle.lsm_tables.specs.Words.{OnFullLists, OnFullTables, TableLists, each_run}
pub use Rattle.lsm_tables.specs.Words.{StoresList, Tombstone, Value, entry, entry_of_ref}
pub use Rattle.lsm_tables.specs.Words.{front_length, ids_behind, is_before, is_from, is_memory}
pub use Rattle.lsm_tables.specs.Words.{is_to, is_weak}
pub use Rattle.lsm_tables.specs.Words.{is_weak_kind, joined, kept_in, nowhere}
pub use Rattle.lsm_tables.specs.Words.{ok_results, range_of, read_place}
pub use Rattle.lsm_tables.specs.Words.{recovered_result, rules_by, run_label, shown, single}
pub use Rattle.lsm_tables.specs.Words.{tables_fault, union_in, within}
unfoldable pub use Rattle.lsm_tables.specs.Words.{point}
pub use Rattle.example_store.specs.Closed.{IsClosed, StoreLists, bytes_by_run, files_in}
pub use Rattle.example_store.specs.Faulty.{IsFirstFault, IsOpenFault, NamesFile, NamesInRun}
pub use Rattle.example_store.specs.Ids.{AreAllCut, AreMadeOf, FailsToFlush, FailsToWrite}
pub use Rattle.example_store.specs.Ids.{HasFlushed, IsTakenIn, StaysOrFlushes}
pub use Rattle.example_store.specs.Part.{IsPartKept, front_runs, part_runs}
pub use Rattle.example_store.specs.Ranged.{OnHistory, OnPart, ShowsHistory, YieldsNewestAt}
pub use Rattle.example_store.specs.Recent.{IsPut, YieldsPart}
pub use Rattle.example_store.specs.Story.{AreNumbered, AreOwnRuns, Holding, IsOwn, IsOwnRun}
pub use Rattle.example_store.specs.Story.{IsOwnTable, IsStore, IsReported, OnRunLists, option_list}
pub use Rattle.example_store.specs.Story.{put_fault, value_in}
pub use Rattle.example_store.specs.declared.store.open.FileFault.TheVariants.{Unopened}
pub use Rattle.example_store.specs.declared.store.open.OpenError.TheVariants.{File, NoFile}
pub use Rattle.example_store.specs.declared.store.open.OpenError.TheVariants.{OldestTooHigh}
pub use Rattle.example_store.specs.declared.store.open.OpenError.TheVariants.{OutOfOrder, Repeated}
pub use Rattle.example_store.specs.declared.store.open.OpenError.TheVariants.{SeqNoOverflow}

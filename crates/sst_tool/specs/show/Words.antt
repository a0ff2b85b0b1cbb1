-- The definitions that contracts of this crate cite, under one name.
pub use Rattle.std.specs.Arc.{arc_value}
pub use Rattle.std.specs.Iterator.{IsFinite, size}
pub use Rattle.sst_entries.specs.Entry.{Entry}
pub use Rattle.sst_entries.specs.declared.error.Error.TheVariants.{OutOfMemory}
pub use Rattle.sst_entries.specs.Lending.{entry_of_ref}
pub use Rattle.sst_entries.specs.Stream.{CanYield, nowhere}
pub use Rattle.lsm_readers.specs.Stored.{StoresList}
pub use Rattle.lsm_readers.specs.point.Table.{IsRecovered}
pub use Rattle.lsm_files.specs.Reads.{AreKnown}
pub use Rattle.lsm_files.specs.Results.{FileGives, IsFailureOr}
pub use Rattle.lsm_runs.specs.RunLists.{YieldsList}
pub use Rattle.lsm_runs.specs.SeveralRuns.{run_read}
pub use Rattle.sst_tool.specs.show.Failures.{BlamesFile, FailsAs, NamesNone, NamesOnly}
pub use Rattle.sst_tool.specs.show.Failures.{NamesRefusal}
pub use Rattle.sst_tool.specs.show.Files.{IsSoundTable, OnListsOf, OnStored, runs_in}
pub use Rattle.sst_tool.specs.show.Gets.{FailsGet, FailsOpen, GetsFrom, IsFailureAt, IsSameFailure}
pub use Rattle.sst_tool.specs.show.Gets.{ReadsAll, ReadsFile, StopsGet}
pub use Rattle.sst_tool.specs.show.Merged.{FailsOnlyAs, IfReadInOrder, NamesUnread, PrintsMerged}
pub use Rattle.sst_tool.specs.show.Merged.{PrintsSteps, ShowsLive, merged_entries, merged_lines}
pub use Rattle.sst_tool.specs.show.Merged.{newest_found, newest_in}
pub use Rattle.sst_tool.specs.show.Read.{AreAllEntries, DealsTo, OnEnding, Outcome, ShowsInTurn}
pub use Rattle.sst_tool.specs.show.Read.{ShowsItem, chosen, dumped, first_error, from_key, readable}
pub use Rattle.sst_tool.specs.show.Read.{seen_below, up_to_key}

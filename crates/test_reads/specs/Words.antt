-- The words of the clauses, those of the crates below among them, from one place.
pub use Rattle.std.specs.Arc.{arc_value}
pub use Rattle.std.specs.Iterator.{IsFinite}
pub use Rattle.sst_entries.specs.Entry.{Entry}
pub use Rattle.sst_entries.specs.Stream.{CanYield, nowhere}
pub use Rattle.lsm_sorted.specs.version.Run.{ArePlacesOf}
pub use Rattle.sst_blocks.specs.table.Table.{IsTable}
pub use Rattle.lsm_writers.specs.Filtering.{IsSmallFilter}
pub use Rattle.lsm_writers.specs.Writing.{IsSmallIndex}
pub use Rattle.lsm_runs.specs.RunLists.{HoldsList}
pub use Rattle.lsm_runs.specs.compaction.Compacted.{AreCompactable}
pub use Rattle.test_reads.specs.Stored.{new_entries, stored_entries}

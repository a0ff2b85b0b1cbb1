-- The words of the clauses, those of the crates below among them, from one place.
pub use Rattle.std.specs.Arc.{arc_value}
pub use Rattle.sst_entries.specs.declared.error.Error.TheVariants.{OutOfMemory}
pub use Rattle.lsm_sorted.specs.version.KeyRange.{key_bound}
pub use Rattle.lsm_sorted.specs.version.Run.{ArePlacesOf, IsInOrder, overlap_indexes}
pub use Rattle.lsm_iters.specs.walk.Parts.{LoadGives}
pub use Rattle.lsm_iters.specs.Range.{range_remains}
pub use Rattle.lsm_readers.specs.point.Table.{OpenTable}
pub use Rattle.lsm_run_parts.specs.RunParts.{IsPartReader, ends_given, range_of, ranges_of, span_of}
pub use Rattle.lsm_run_parts.specs.RunParts.{span_part_at, span_parts}
pub use Rattle.lsm_run_parts.specs.Tables.{EndsTables, KeepsTables, coming_tables, opened_tables}
pub use Rattle.lsm_run_parts.specs.Tables.{place_taken}

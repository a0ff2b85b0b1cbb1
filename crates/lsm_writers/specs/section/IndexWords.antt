-- The definitions that contracts of index writers cite, re-exported from one module.
pub use Rattle.sst_entries.specs.Error.{Faults, FaultsFirst}
pub use Rattle.sst_blocks.specs.Sections.{slot_index}
pub use Rattle.sst_blocks.specs.Block.{header_len}
pub use Rattle.sst_blocks.specs.Bounds.{capped, index_block_bound_of}
pub use Rattle.sst_blocks.specs.Encoding.{handles_fault}
pub use Rattle.sst_blocks.specs.Handles.{AreStrictHandles, handles_payload}
pub use Rattle.sst_blocks.specs.table.Failed.{failed_fault}
pub use Rattle.sst_blocks.specs.table.File.{HasNoIndex}
pub use Rattle.sst_blocks.specs.table.Fits.{SectionFits}
pub use Rattle.sst_blocks.specs.table.Layout.{appended}
pub use Rattle.sst_blocks.specs.table.Partitions.{handle_size, handles_block, index_tops}
pub use Rattle.sst_blocks.specs.table.Partitions.{is_full_index}
pub use Rattle.sst_blocks.specs.table.Partitions.{partitioned_index}
pub use Rattle.sst_blocks.specs.table.Parts.{parts_by}
pub use Rattle.lsm_writers.specs.section.Kept.{handle_with}
pub use Rattle.lsm_writers.specs.section.IndexRefusing.{kind_fault, part_fault, parts_fault}

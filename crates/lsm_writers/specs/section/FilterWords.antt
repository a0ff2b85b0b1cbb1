-- The definitions that contracts of filter writers cite, re-exported from one module.
pub use Rattle.sst_entries.specs.Error.{Faults, FaultsFirst, Refuses}
pub use Rattle.sst_blocks.specs.filter.KeyHash.{hash_of}
pub use Rattle.sst_blocks.specs.Sections.{slot_index}
pub use Rattle.sst_blocks.specs.filter.Filter.{payload_of}
pub use Rattle.sst_blocks.specs.filter.Policy.{fault_for, size_for, tenths_of}
pub use Rattle.sst_blocks.specs.Block.{header_len}
pub use Rattle.sst_blocks.specs.Encoding.{handles_fault}
pub use Rattle.sst_blocks.specs.Handles.{AreStrictHandles}
pub use Rattle.sst_blocks.specs.table.File.{HasNoFilter}
pub use Rattle.sst_blocks.specs.table.Filters.{IsFilterFor, filter_block}
pub use Rattle.sst_blocks.specs.table.Fits.{SectionFits}
pub use Rattle.sst_blocks.specs.table.Layout.{appended}
pub use Rattle.sst_blocks.specs.table.Partitions.{handles_block}
pub use Rattle.lsm_writers.specs.section.Answering.{IsAdmitted, was_given}
pub use Rattle.lsm_writers.specs.section.Given.{GivenKeys, all_keys, given_by, no_keys, rest_keys}
pub use Rattle.lsm_writers.specs.section.Given.{with_key}
pub use Rattle.lsm_writers.specs.section.Held.{Cuts, HoldsAll, HoldsHashes, HoldsParts}
pub use Rattle.lsm_writers.specs.section.Held.{end_keys, filters_of, partition_of}
pub use Rattle.lsm_writers.specs.section.FilterRefusing.{filter_fault, given_fault, keys_fault}
pub use Rattle.lsm_writers.specs.section.FilterRefusing.{key_parts_bound, partition_size}
pub use Rattle.lsm_writers.specs.section.FilterRefusing.{register_fault, size_fault, top_fault}
pub use Rattle.lsm_writers.specs.section.Rising.{AreRising}
pub use Rattle.lsm_writers.specs.section.Writing.{WritesFilter, WritesParts}
pub use Rattle.lsm_writers.specs.section.Writing.{part_sections, tops_block, tops_of}

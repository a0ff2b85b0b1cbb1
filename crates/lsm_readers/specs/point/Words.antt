-- The definitions that contracts of point reads cite.
pub use Rattle.sst_entries.specs.Entry.{Entry}
pub use Rattle.sst_entries.specs.Error.{FaultsFirst, Gives}
pub use Rattle.sst_entries.specs.Point.{point}
pub use Rattle.sst_blocks.specs.filter.KeyHash.{hash_of}
pub use Rattle.sst_blocks.specs.Sections.{body_of}
pub use Rattle.sst_blocks.specs.Block.{Loaded, entries_of, load_result, place_fault}
pub use Rattle.sst_blocks.specs.Handle.{Handle}
pub use Rattle.sst_blocks.specs.Opened.{with_load, none_opened}
pub use Rattle.lsm_iters.specs.block_index.Kinds.{index_of as index_read}
pub use Rattle.lsm_readers.specs.point.Answer.{LoadsFew, admission, admitted_handle, answer}
pub use Rattle.lsm_readers.specs.point.Answer.{block_admits}
pub use Rattle.lsm_readers.specs.point.Answer.{filter_admits, lifted, match_at}
pub use Rattle.lsm_readers.specs.point.IndexKinds.{handle_in_block, handle_by, handles_result}
pub use Rattle.lsm_readers.specs.point.IndexKinds.{index_len}
pub use Rattle.lsm_readers.specs.point.IndexKinds.{pinned_index_of, index_over, index_result}
pub use Rattle.lsm_readers.specs.point.IndexKinds.{kind_kept}
pub use Rattle.lsm_readers.specs.point.IndexKinds.{index_kind_of, on_each_read, partitioned}
pub use Rattle.lsm_readers.specs.point.Read.{DoesRead, Opens}
pub use Rattle.lsm_readers.specs.point.Table.{parts_of}

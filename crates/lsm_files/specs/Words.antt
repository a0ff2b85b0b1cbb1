-- The definitions that contracts of tables in files cite, with those of the crates below.
pub use Rattle.std.specs.IoError.{error_kind}
pub use Rattle.std.specs.Option.{option_map}
pub use Rattle.std.specs.Result.{IsErrAnd}
pub use Rattle.sst_entries.specs.Entry.{Entry}
pub use Rattle.sst_entries.specs.Error.{Gives, is_memory}
pub use Rattle.sst_entries.specs.Point.{point}
pub use Rattle.sst_entries.specs.Stream.{ok_results}
pub use Rattle.sst_entries.specs.Lending.{entry_of_ref}
pub use Rattle.sst_entries.specs.declared.error.Error.TheVariants.{OutOfMemory, Truncated}
pub use Rattle.sst_blocks.specs.Access.{IsKnown as IsKnownTo}
pub use Rattle.sst_blocks.specs.Block.{Loaded, decode_block, header_len}
unfoldable pub use Rattle.sst_blocks.specs.Block.{load_at_result, load_result}
pub use Rattle.sst_blocks.specs.Opened.{none_opened, with_load}
pub use Rattle.sst_blocks.specs.Sections.{body_of, trailer_len}
pub use Rattle.sst_blocks.specs.declared.block_type.BlockType.TheVariants.{Data}
pub use Rattle.sst_blocks.specs.filter.KeyHash.{hash_of}
pub use Rattle.lsm_readers.specs.point.Answer.{LoadsFew, lift, table_answer}
pub use Rattle.lsm_readers.specs.point.Batch.{query_result}
pub use Rattle.lsm_readers.specs.point.Many.{answers_to, many_results}
pub use Rattle.lsm_readers.specs.point.Parts.{parts_result, recovered_result}
pub use Rattle.lsm_readers.specs.point.Read.{Opens}
pub use Rattle.lsm_readers.specs.point.Table.{IsRecovered, OpenTable, parts_of}
pub use Rattle.lsm_readers.specs.Scan.{IsEndedScan, block_result, ended, fault_of}
pub use Rattle.lsm_readers.specs.Scan.{lend_next, loads, loads_of, scan_left, scan_results}
pub use Rattle.lsm_readers.specs.Stored.{StoresList, fits_result}
pub use Rattle.lsm_files.specs.Keeping.{IsCached, IsLoadOf, KeepsBlockOf}
pub use Rattle.lsm_files.specs.Reads.{AreKnown, IsPartAt, NeverFails, whole}
pub use Rattle.lsm_files.specs.Results.{FileFaults, FileFindsInList, FileGives, IsFailure}
pub use Rattle.lsm_files.specs.Results.{IsHandleFault, OnStoredList}
pub use Rattle.lsm_files.specs.Results.{IsFailureOr, IsIo, MayBeError, kept_failure}
pub use Rattle.lsm_files.specs.Results.{IsReadError, failure_as_memory}
pub use Rattle.lsm_files.specs.Scan.{LoadsUpTo, in_file, next_of, rest_of, table_error}
pub use Rattle.lsm_files.specs.Tail.{IsTailOf, IsTocOf, IsTrailerError, IsPartError}

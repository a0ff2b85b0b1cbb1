-- The definitions that contracts cite, re-exported from one module.
pub use Rattle.sst_entries.specs.Entry.{Entry}
pub use Rattle.sst_entries.specs.Error.{Faults, FaultsFirst, Refuses}
pub use Rattle.sst_entries.specs.Strict.{IsStrict, last_of}
pub use Rattle.sst_blocks.specs.Fnv.{fnv1a}
pub use Rattle.sst_blocks.specs.Sections.{finished, slot_index}
pub use Rattle.sst_blocks.specs.filter.Policy.{fault_for, size_for, tenths_of}
pub use Rattle.sst_blocks.specs.Bounds.{capped, empty_len, entry_head_len, index_block_bound_of}
pub use Rattle.sst_blocks.specs.Encoding.{IsShortEntry, entries_fault, handles_fault}
pub use Rattle.sst_blocks.specs.Payload.{IsSpellable, payload}
pub use Rattle.sst_blocks.specs.table.Chunks.{entries_size, entry_size, is_full, joined}
pub use Rattle.sst_blocks.specs.table.Failed.{failed_fault}
pub use Rattle.sst_blocks.specs.table.File.{HasNoFilter, HasNoIndex, HasNoMeta, HasNoVersion}
pub use Rattle.sst_blocks.specs.table.File.{meta_section, version_section}
pub use Rattle.sst_blocks.specs.table.Fits.{BlockFits, EntryFits, LabelFits, SectionFits}
pub use Rattle.sst_blocks.specs.table.Index.{block_size, data_block, data_section, handle_of}
pub use Rattle.sst_blocks.specs.table.Index.{handles, last_entry}
pub use Rattle.sst_blocks.specs.table.Kinds.{filter_with_size, index_with_size}
pub use Rattle.sst_blocks.specs.table.Layout.{appended, laid}
pub use Rattle.sst_blocks.specs.table.Options.{label_of}
pub use Rattle.lsm_writers.specs.section.FilterRefusing.{filter_fault, key_parts_bound}
pub use Rattle.lsm_writers.specs.section.FilterRefusing.{keys_fault, register_fault}
pub use Rattle.lsm_writers.specs.section.FilterRefusing.{size_fault, top_fault}
pub use Rattle.lsm_writers.specs.section.Writing.{WritesFilter, WritesParts, part_sections}
pub use Rattle.lsm_writers.specs.section.Writing.{tops_block, tops_of}
pub use Rattle.lsm_writers.specs.Counts.{HasShortKeys, block_counts, counted_facts, metadata_of}
pub use Rattle.lsm_writers.specs.Counts.{tally_of}
pub use Rattle.lsm_writers.specs.Cut.{AddsChunk, AreCut, AreCutBy, CanCut, CountsCut, Cut, IsReadable}
pub use Rattle.lsm_writers.specs.Cut.{LeavesChunks, rest_chunk, with_cut}
pub use Rattle.lsm_writers.specs.Filtering.{CanRegister, ForKeysOf, HasKeys, IsSmallFilter}
pub use Rattle.lsm_writers.specs.Filtering.{MayHaveKeys, Registers, keys_of_entry, registered_key}
pub use Rattle.lsm_writers.specs.Held.{ForTableParts, HaveParts, IsTakenWhenFull}
pub use Rattle.sst_blocks.specs.table.Facts.{is_reclaimable, is_value_kind, starts_key}
pub use Rattle.lsm_writers.specs.Writing.{IsFinished, IsFresh, IsSmallIndex, IsTableOf, IsWritable}
pub use Rattle.lsm_writers.specs.Writing.{SetsOption}
pub use Rattle.lsm_writers.specs.Writing.{WritesTable, cut_writing, finish_fault, fresh_writing}
pub use Rattle.lsm_writers.specs.Writing.{gained, item_fault, list_fault, may_be_written}
pub use Rattle.lsm_writers.specs.Writing.{new_writing, sections_fault, spilled, write_fault}
pub use Rattle.lsm_writers.specs.Writing.{written}
pub use Rattle.std.specs.List.{AllByRecursion, flat_map, list_all}
pub use Rattle.std.specs.Option.{option_map, option_to_list}
pub use Rattle.sst_entries.specs.Key.{same_key}
pub use Rattle.sst_entries.specs.Kind.{is_weak_kind, tag_of}
pub use Rattle.sst_entries.specs.Lending.{entry_of_ref}
pub use Rattle.sst_entries.specs.declared.error.Error.TheVariants.{OutOfMemory}
pub use Rattle.sst_blocks.specs.Block.{header_len}
pub use Rattle.sst_blocks.specs.Handles.{AreStrictHandles}
unfoldable pub use Rattle.sst_blocks.specs.Handles.{handles_payload}
unfoldable pub use Rattle.sst_blocks.specs.Number.{le16, le4, le8}
unfoldable pub use Rattle.sst_blocks.specs.Payload.{spelled}
pub use Rattle.sst_blocks.specs.declared.section.SectionName.TheVariants.{Data, FilterTli, Tli}
pub use Rattle.sst_blocks.specs.declared.table.options.FilterKind.TheVariants.{Partitioned as PartitionedFilter}
pub use Rattle.sst_blocks.specs.declared.table.options.IndexKind.TheVariants.{Partitioned as PartitionedIndex}
pub use Rattle.sst_blocks.specs.declared.version.TableVersion.TheVariants.{V4}
pub use Rattle.sst_blocks.specs.filter.Filter.{payload_of}
pub use Rattle.sst_blocks.specs.filter.KeyHash.{hash_of}
pub use Rattle.sst_blocks.specs.table.Filters.{IsFilterFor, filter_block}
pub use Rattle.sst_blocks.specs.table.MetaBlock.{block_items, count_items, crate_version, key_items}
pub use Rattle.sst_blocks.specs.table.MetaBlock.{level_items, meta_entry, option_items}
pub use Rattle.sst_blocks.specs.table.MetaBlock.{version_number}
pub use Rattle.sst_blocks.specs.table.Partitions.{handle_size, handles_block, index_tops}
pub use Rattle.sst_blocks.specs.table.Partitions.{is_full_index, partitioned_index}
pub use Rattle.sst_blocks.specs.table.Parts.{parts_by}
pub use Rattle.lsm_writers.specs.Buffered.{IsMark, MarksFront}
unfoldable pub use Rattle.lsm_writers.specs.Counts.{counted_items}
pub use Rattle.lsm_writers.specs.Streamed.{CanPoll, CanTake, EndsAll, LeavesError, Starts, StartsReady}
pub use Rattle.lsm_writers.specs.Streamed.{StopsAfter, WritesUntil, YieldsNextTable, items_left}
pub use Rattle.lsm_writers.specs.Tables.{AddsTable, AreFinished, AreInKeyOrder, AreTables, CutLaw}
pub use Rattle.lsm_writers.specs.Tables.{HasRoomFor, IsFreshRun, IsStanding, OneCutLaw, OneKeyLaw}
pub use Rattle.lsm_writers.specs.Tables.{SetsOptionOfAll}
pub use Rattle.lsm_writers.specs.Tables.{TakesLaw, all_written, drawn, early_refusal, first_label}
pub use Rattle.lsm_writers.specs.Tables.{ids_after, ids_fault, is_due, new_tables, next_writing}
pub use Rattle.lsm_writers.specs.Tables.{rotation_fault, run_fault, table_fault, tables_of, took}
pub use Rattle.lsm_writers.specs.Tables.{took_fault, turn_fault, with_options}
pub use Rattle.lsm_writers.specs.Taken.{BegunLaw, FinishedLaw, IsLeft, IsWriting, StayHeld, TakenLaw}
pub use Rattle.lsm_writers.specs.Taken.{WrittenLaw, taken}
pub use Rattle.lsm_writers.specs.section.Given.{GivenKeys, given_by, no_keys, rest_keys}
pub use Rattle.lsm_writers.specs.section.Given.{with_key}
pub use Rattle.lsm_writers.specs.section.Held.{Cuts, HoldsAll, HoldsHashes, HoldsParts, end_keys}
pub use Rattle.lsm_writers.specs.section.Held.{filters_of}
pub use Rattle.lsm_writers.specs.section.IndexEither.{registered_by}
pub use Rattle.lsm_writers.specs.section.IndexRefusing.{kind_fault, part_fault}
unfoldable pub use Rattle.lsm_writers.specs.section.IndexRefusing.{parts_fault}
pub use Rattle.lsm_writers.specs.section.Kept.{AreAmong, handle_with, handles_among, parts_of_index}
pub use Rattle.lsm_writers.specs.section.Laws.{AdmittedLaw, AllKeysLaw, GivenMoreLaw, GivenNoneLaw}
pub use Rattle.lsm_writers.specs.section.Laws.{SameFaultLaw, SameFiltersLaw, SmallPartsLaw}
pub use Rattle.lsm_writers.specs.section.Rising.{AreRising}

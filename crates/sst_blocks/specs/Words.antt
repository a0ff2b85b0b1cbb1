-- The definitions for contracts of blocks, with those of the crates below, so that a file imports
-- them from one module.
pub use Rattle.sst_entries.specs.Entry.{Entry}
pub use Rattle.sst_entries.specs.Error.{Faults, FaultsFirst, Gives, Refuses, is_memory, unless}
pub use Rattle.sst_entries.specs.Key.{key_lt}
pub use Rattle.sst_entries.specs.Kind.{tag_of}
pub use Rattle.sst_entries.specs.Lending.{entry_of_ref}
pub use Rattle.sst_entries.specs.Point.{lower_place, point, read_place, upper_place, within}
pub use Rattle.sst_entries.specs.Span.{SpanGives, front_length, rest_in}
pub use Rattle.sst_entries.specs.Stream.{CanYield, EndsAtError, YieldsExactly, answer_stops}
pub use Rattle.sst_entries.specs.Stream.{back_of, front_of, ok_results}
pub use Rattle.sst_entries.specs.Strict.{IsStrict, is_before, is_strict_after, may_follow}
pub use Rattle.sst_blocks.specs.Block.{Loaded, LoadsBack, block_bytes, checksum_fault, data_len}
pub use Rattle.sst_blocks.specs.Block.{entries_of, grammar_fault, handles_of, has_room}
pub use Rattle.sst_blocks.specs.Block.{has_room_for, header_fault, header_len, in_grammar}
pub use Rattle.sst_blocks.specs.Block.{is_filter, kind_tag, loaded, room_fault, stored_checksum}
pub use Rattle.sst_blocks.specs.Block.{decode_block, decode_fault, head_size}
pub use Rattle.sst_blocks.specs.Block.{uncompressed_len, version_in}
pub use Rattle.sst_blocks.specs.Bounds.{bound_of, data_block_bound_of, index_block_bound_of}
pub use Rattle.sst_blocks.specs.Cursor.{Cursor, advanced, cursor_of, over_cursor, retreated, unlent}
pub use Rattle.sst_blocks.specs.EntryPlace.{IsPlacedIn, entry_placed, placed_in}
pub use Rattle.sst_blocks.specs.Encoding.{IsShortEntry, entries_fault, entry_fault_or, handles_fault}
pub use Rattle.sst_blocks.specs.Encoding.{items_fault}
pub use Rattle.sst_blocks.specs.Handle.{Handle}
pub use Rattle.sst_blocks.specs.Handles.{AreSpellableHandles, AreStrictHandles, end_of, handles_in}
pub use Rattle.sst_blocks.specs.Handles.{handles_payload, is_above, reaches, window}
pub use Rattle.sst_blocks.specs.Payload.{AreFit, AreSpellable, IsSpellable, items_payload, payload}
unfoldable pub use Rattle.sst_blocks.specs.Payload.{spelled}
pub use Rattle.sst_blocks.specs.Place.{place_of}
pub use Rattle.sst_blocks.specs.Reading.{entries_in, key_and_number}
pub use Rattle.sst_blocks.specs.Seeking.{KeepsLower, KeepsLowerEdge, KeepsUpper, KeepsUpperEdge}
pub use Rattle.sst_blocks.specs.Seeking.{CountsFront, YieldsItems, YieldsLeft, above_place, reaching_place}
pub use Rattle.sst_blocks.specs.Seeking.{span_from, span_to, whole_span}
pub use Rattle.sst_blocks.specs.SeenHandle.{handle_of_ref}
pub use Rattle.sst_blocks.specs.Starts.{EntriesAt, HoldsEntries, IsBlock, ItemsAt}
pub use Rattle.sst_blocks.specs.filter.Filter.{BloomFilter, Gains, IsBuilt, IsFilterOf, admits}
pub use Rattle.sst_blocks.specs.filter.Filter.{filter_in, is_in, is_set, payload_of, stride}
pub use Rattle.std.specs.Arc.{arc_value}
pub use Rattle.std.specs.Iterator.{at_most}
pub use Rattle.std.specs.List.{AllByRecursion, flat_map, list_all, list_any, slice_get}
pub use Rattle.std.specs.List.Sorted.{IsPartitionedBy}
pub use Rattle.std.specs.Option.{option_map, option_or}
pub use Rattle.std.specs.declared.ops.Bound.TheVariants.{Excluded, Included, Unbounded}
pub use Rattle.sst_entries.specs.declared.error.Error.{Error}
pub use Rattle.sst_entries.specs.declared.error.Error.TheVariants.{InvalidBlock, OutOfMemory}
pub use Rattle.sst_blocks.specs.Asked.{IsSure, find_result, maybe_in, maybe_result, place_for}
pub use Rattle.sst_blocks.specs.Asked.{point_of, point_result, result_map}
unfoldable pub use Rattle.sst_blocks.specs.Block.{checked_payload, load_at_result, load_result}
unfoldable pub use Rattle.sst_blocks.specs.Block.{place_fault, position_fault}
pub use Rattle.sst_blocks.specs.Fnv.{fnv1a, fnv_back, fnv_basis, fnv_step}
unfoldable pub use Rattle.sst_blocks.specs.Fnv.{fnv_from}
pub use Rattle.sst_blocks.specs.Format.{first_after, items_in, items_of}
pub use Rattle.sst_blocks.specs.Marks.{Holds, Says}
unfoldable pub use Rattle.sst_blocks.specs.Number.{le4, le8, num2, num4, num8}
pub use Rattle.sst_blocks.specs.Opened.{none_opened, with_load}
pub use Rattle.sst_blocks.specs.Placed.{IsHeaded, IsPlaced, IsValid, checked_in, fault_in}
pub use Rattle.sst_blocks.specs.Placed.{IsRangeAt, payload_in}
unfoldable pub use Rattle.sst_blocks.specs.Reading.{entry_at, parts_at}
pub use Rattle.sst_blocks.specs.Sections.{AreAscending, ReadsBack, Written, body_of, finished}
pub use Rattle.sst_blocks.specs.Sections.{is_past, section_at, section_names, section_of, slot}
pub use Rattle.sst_blocks.specs.Sections.{slot_index, slots_len, trailer_fault, trailer_mark}
pub use Rattle.sst_blocks.specs.Sections.{trailer_of}
unfoldable pub use Rattle.sst_blocks.specs.Sections.{section_in}
pub use Rattle.sst_blocks.specs.Version.{key_len_at, key_width, longest_key, mark, version_of}
pub use Rattle.sst_blocks.specs.declared.block_type.BlockType.{BlockType}
pub use Rattle.sst_blocks.specs.declared.block_type.BlockType.TheVariants.{Data, Filter, Index}
pub use Rattle.sst_blocks.specs.declared.version.TableVersion.{TableVersion}
pub use Rattle.sst_blocks.specs.declared.version.TableVersion.TheVariants.{V4}
unfoldable pub use Rattle.sst_blocks.specs.filter.Filter.{probes}
pub use Rattle.sst_blocks.specs.filter.KeyHash.{hash_of}
pub use Rattle.sst_blocks.specs.filter.Policy.{bound_for, empty_filter, fault_for, probe_count}
pub use Rattle.sst_blocks.specs.filter.Policy.{size_for, tenths_of}
pub use Rattle.sst_blocks.specs.table.Kinds.{filter_with_size, index_with_size}
unfoldable pub use Rattle.sst_blocks.specs.table.MetaBlock.{name_of}
